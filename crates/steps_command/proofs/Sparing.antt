-- What a session changes of a folder's files: those that it may.
use Rattle.std.proofs.Common.{◌≡◌, ℕ, zero, suc, ◌+◌, ◌-◌, ◌==◌, Bool, true, false, cond, List, [], ◌∷◌, map, drop, Some, refl, sym, ap, subst, ◌∙◌, arith}
use Rattle.std.specs.Prelude.{option_map, slice_index_or, unwrap_or}
use Rattle.std.specs.List.{AllByRecursion}
use Rattle.std.specs.Str.{bytes_eq}
use Rattle.store_model.specs.File.{File, Op, Seal, is_synced, seen}
use Rattle.store_model.specs.Folder.{Held, attached_trace, back_from, file_named, fresh, given_back, has_name, seen_named, with_file, without}
use Rattle.store_model.specs.Trace.{Change, NamedBytes, Trace, at_moment, bytes_of, file_of, moment, ops_of}
use Rattle.store_model.proofs.Throughout.{attached-at_moment}
use Rattle.chain_model.specs.Images.{name_of}
use Rattle.chain_model.specs.Members.{NoneTwice}
use Rattle.link_rules.specs.Chains.{is_among}
use Rattle.link_rules.specs.Folders.{AllIdle}
use Rattle.link_rules.proofs.Lent.{can_attach, same_name}
use Rattle.chain_core.specs.Sealed.{IsKept, as_it_was, sealed}
use Rattle.command_base.specs.Commands.{AreAnew, IsAnew}
use Rattle.command_base.specs.Commands as anew
use Rattle.steps_command.specs.Crashes.{AreSpared, IsSpared}
use Rattle.steps_command.specs.Crashes as spared
use Rattle.command_base.proofs.Lent.{AreAt, back_over, each_at, names_attached, names_in}

-- ---- a file that is no more than sealed in the end was no more than that before

-- nothing was done to it but seals
data OnlySealed : List Op → Type 0 where
  nothing : OnlySealed []
  one_more : (ops : List Op) → OnlySealed ops → OnlySealed (Seal ∷ ops)

sealed_before : (other n : ℕ) (changes : List Change) → OnlySealed (ops_of other changes) → OnlySealed (ops_of other (drop n changes))
sealed_before other zero changes done = done
sealed_before other (suc n) [] done = done
sealed_before other (suc n) (c ∷ changes) done = sealed_before other n changes (by_file (c.file == other) refl) where
  earlier : (op : Op) → OnlySealed (op ∷ ops_of other changes) → OnlySealed (ops_of other changes)
  earlier _ (one_more ops only) = only

  by_file : (p : Bool) → (c.file == other) ≡ p → OnlySealed (ops_of other changes)
  by_file true e = earlier c.op (subst (λ b. OnlySealed (cond b (c.op ∷ ops_of other changes) (ops_of other changes))) e done)
  by_file false e = subst (λ b. OnlySealed (cond b (c.op ∷ ops_of other changes) (ops_of other changes))) e done

ops_kept : (old now : File) → old.ops ≡ [] → IsKept old now → OnlySealed now.ops
ops_kept old _ none as_it_was = subst OnlySealed (sym none) nothing
ops_kept old _ none (sealed file kept) = one_more file.ops (ops_kept old file none kept)

kept_by_ops : (old now : File) → now.attached ≡ old.attached → old.ops ≡ [] → OnlySealed now.ops → IsKept old now
kept_by_ops old now same none only = subst (IsKept old) (ap (λ a. record now { attached = a }) (sym same)) (go now.ops only)
  where
    go : (ops : List Op) → OnlySealed ops → IsKept old (record old { ops = ops })
    go _ nothing = subst (λ ops. IsKept old (record old { ops = ops })) none as_it_was
    go _ (one_more ops only) = sealed (record old { ops = ops }) (go ops only)

pub kept_same : (old now : File) → now ≡ old → IsKept old now
kept_same old now same = subst (IsKept old) (sym same) as_it_was

kept_seen : (old now : File) → IsKept old now → seen now ≡ seen old
kept_seen old _ as_it_was = refl
kept_seen old _ (sealed file kept) = kept_seen old file kept

kept_synced : (old now : File) → IsKept old now → is_synced now ≡ is_synced old
kept_synced old _ as_it_was = refl
kept_synced old _ (sealed file kept) = kept_synced old file kept

pub kept_before : (other k : ℕ) (old now : Trace) → old.changes ≡ [] → now.attached ≡ old.attached → IsKept (file_of old other) (file_of now other) → IsKept (file_of old other) (file_of (at_moment k now) other)
unfolding file_of at_moment
kept_before other k old now none same kept =
    let ops : ops_of other old.changes ≡ [] = ap (ops_of other) none in
    kept_by_ops (file_of old other) (file_of (at_moment k now) other) (ap (λ (files : List NamedBytes). bytes_of files other) same) ops
    (sealed_before other (moment now - k) now.changes (ops_kept (file_of old other) (file_of now other) ops kept))

-- the files of a store are those that it was attached with
pub attached_since : (old now : Trace) → at_moment (moment old) now ≡ old → now.attached ≡ old.attached
attached_since old now since = sym (attached-at_moment (moment old) now) ∙ ap (λ (t : Trace). t.attached) since

-- ---- folders in which others are spared

one_spared : (names changed : List (List ℕ)) (held later : Held) → IsAnew names held later → IsSpared changed held later
one_spared names changed held _ anew.untouched = spared.untouched
one_spared names changed held _ (anew.attached file among there) = spared.attached file (fresh (seen file)) there refl refl

pub anew_spared : (names changed : List (List ℕ)) (folder now : List Held) → AreAnew names folder now → AreSpared changed folder now
anew_spared names changed [] [] h = tt
anew_spared names changed [] (later ∷ now) h = absurd h
anew_spared names changed (held ∷ folder) [] h = absurd h
anew_spared names changed (held ∷ folder) (later ∷ now) h = (one_spared names changed held later h.0, anew_spared names changed folder now h.1)

pub still_spared : (changed : List (List ℕ)) (folder : List Held) → AreSpared changed folder folder
still_spared changed [] = tt
still_spared changed (held ∷ folder) = (spared.untouched, still_spared changed folder)

later_name : (changed : List (List ℕ)) (held later : Held) → IsSpared changed held later → later.name ≡ held.name
later_name changed held _ (spared.may_change file among) = refl
later_name changed held _ spared.untouched = refl
later_name changed held _ (spared.attached file after had same synced) = refl

-- one more of those that may be changed
module _ (changed : List (List ℕ)) (name : List ℕ) (among : is_among name changed ≡ true) (file : File) where
  changed_again : (held later : Held) → bytes_eq held.name name ≡ true → IsSpared changed held later → IsSpared changed held (record later { file = Some file })
  changed_again held _ e (spared.may_change other known) = spared.may_change file known
  changed_again held _ e spared.untouched = spared.may_change file (ap (λ n. is_among n changed) (same_name held.name name e) ∙ among)
  changed_again held _ e (spared.attached other after had same synced) = spared.may_change file (ap (λ n. is_among n changed) (same_name held.name name e) ∙ among)

  one_changed : (folder now : List Held) → AreSpared changed folder now → AreSpared changed folder (with_file name (Some file) now)
  one_changed [] [] h = tt
  one_changed [] (later ∷ now) h = absurd h
  one_changed (held ∷ folder) [] h = absurd h
  one_changed (held ∷ folder) (later ∷ now) h = by_name (bytes_eq later.name name) refl (one_changed folder now h.1) where
    by_name : (p : Bool) → bytes_eq later.name name ≡ p → AreSpared changed folder (with_file name (Some file) now) → AreSpared changed (held ∷ folder) (with_file name (Some file) (later ∷ now))
    by_name true e rest =
        subst (λ p. AreSpared changed (held ∷ folder) (cond p (record later { file = Some file } ∷ now) (later ∷ with_file name (Some file) now))) (sym e)
        (changed_again held later (ap (λ n. bytes_eq n name) (sym (later_name changed held later h.0)) ∙ e) h.0, h.1)
    by_name false e rest = subst (λ p. AreSpared changed (held ∷ folder) (cond p (record later { file = Some file } ∷ now) (later ∷ with_file name (Some file) now))) (sym e) (h.0, rest)

-- one more of those that were attached, and not changed
module _ (changed : List (List ℕ)) (name : List ℕ) (file after : File) (same : seen after ≡ seen file) (synced : is_synced after ≡ true) where
  kept_again : (held later : Held) → held.file ≡ Some file → IsSpared changed held later → IsSpared changed held (record later { file = Some after })
  kept_again held _ had (spared.may_change other known) = spared.attached file after had same synced
  kept_again held _ had spared.untouched = spared.attached file after had same synced
  kept_again held _ had (spared.attached other later was alike idle) = spared.attached file after had same synced

  one_kept : (folder now : List Held) → file_named name folder ≡ Some file → AreSpared changed folder now → AreSpared changed folder (with_file name (Some after) now)
  one_kept [] [] had h = tt
  one_kept [] (later ∷ now) had h = absurd h
  one_kept (held ∷ folder) [] had h = absurd h
  one_kept (held ∷ folder) (later ∷ now) had h = by_name (bytes_eq held.name name) refl (one_kept folder now) where
    eq_later : bytes_eq later.name name ≡ bytes_eq held.name name
    eq_later = ap (λ n. bytes_eq n name) (later_name changed held later h.0)

    by_name : (p : Bool) → bytes_eq held.name name ≡ p → (file_named name folder ≡ Some file → AreSpared changed folder now → AreSpared changed folder (with_file name (Some after) now))
        → AreSpared changed (held ∷ folder) (with_file name (Some after) (later ∷ now))
    by_name true e further =
        subst (λ p. AreSpared changed (held ∷ folder) (cond p (record later { file = Some after } ∷ now) (later ∷ with_file name (Some after) now))) (sym (eq_later ∙ e))
        (kept_again held later (sym (ap (λ c. cond c held.file (file_named name folder)) e) ∙ had) h.0, h.1)
    by_name false e further =
        subst (λ p. AreSpared changed (held ∷ folder) (cond p (record later { file = Some after } ∷ now) (later ∷ with_file name (Some after) now))) (sym (eq_later ∙ e))
        (h.0, further (sym (ap (λ c. cond c held.file (file_named name folder)) e) ∙ had) h.1)

-- ---- and at rest

one_idle : (name : List ℕ) (file : File) (now : List Held) → is_synced file ≡ true → AllIdle now → AllIdle (with_file name (Some file) now)
one_idle name file [] synced idle = idle
one_idle name file (held ∷ now) synced idle = by_name (bytes_eq held.name name) refl (one_idle name file now synced (λ k d h. idle (suc k) d (omega (arith, h)))) where
  by_name : (p : Bool) → bytes_eq held.name name ≡ p → AllIdle (with_file name (Some file) now) → AllIdle (with_file name (Some file) (held ∷ now))
  by_name true e rest = subst (λ p. AllIdle (cond p (record held { file = Some file } ∷ now) (held ∷ with_file name (Some file) now))) (sym e) (by_place (record held { file = Some file }) now (file, refl, synced) (λ k d h. idle (suc k) d (omega (arith, h))))
    where
      by_place : (first : Held) (others : List Held) → ((f : File) × (first.file ≡ Some f) × (is_synced f ≡ true)) → AllIdle others → AllIdle (first ∷ others)
      by_place first others own rest zero d h = own
      by_place first others own rest (suc k) d h = rest k d (omega (arith, h))
  by_name false e rest = subst (λ p. AllIdle (cond p (record held { file = Some file } ∷ now) (held ∷ with_file name (Some file) now))) (sym e) (by_place rest)
    where
      by_place : AllIdle (with_file name (Some file) now) → AllIdle (held ∷ with_file name (Some file) now)
      by_place rest zero d h = idle zero d (omega arith)
      by_place rest (suc k) d h = rest k d (omega (arith, h))

-- ---- a store of which only some files were changed, by their numbers

module _ (changed names : List (List ℕ)) (folder : List Held) (idle : AllIdle folder) (once : NoneTwice names) (there : AllByRecursion (λ name. has_name name folder ≡ true) names) (written : ℕ → Bool)
    (may : (n : ℕ) → written n ≡ true → is_among (slice_index_or names n []) changed ≡ true) (trace : Trace) (same : trace.attached ≡ (attached_trace names folder).attached)
    (still : (other : ℕ) → written other ≡ false → IsKept (file_of (attached_trace names folder) other) (file_of trace other)) where
  abbrev old : Trace
  old = attached_trace names folder

  fresh_at : (number : ℕ) → file_of old number ≡ fresh (bytes_of old.attached number)
  unfolding file_of
  fresh_at number = refl

  seen_as : (number : ℕ) → written number ≡ false → seen (file_of trace number) ≡ bytes_of old.attached number
  seen_as number e = kept_seen (file_of old number) (file_of trace number) (still number e) ∙ ap seen (fresh_at number)

  synced_as : (number : ℕ) → written number ≡ false → is_synced (file_of trace number) ≡ true
  synced_as number e = kept_synced (file_of old number) (file_of trace number) (still number e) ∙ ap is_synced (fresh_at number)

  may_attached : (n : ℕ) → written n ≡ true → is_among (name_of old.attached n) changed ≡ true
  may_attached n e = ap (λ ns. is_among (slice_index_or ns n []) changed) (names_attached names folder) ∙ may n e

  abbrev files_from : List (List ℕ) → List NamedBytes
  files_from rest = map (λ name. record { name = name; bytes = seen_named name folder }) rest

  back_spared : (i : ℕ) (rest : List (List ℕ)) (now : List Held) → AllByRecursion (λ name. has_name name folder ≡ true) rest → AreAt old.attached i (files_from rest) → AreSpared changed folder now
      → AreSpared changed folder (back_from i (files_from rest) trace now)
  back_spared i [] now rest_there at h = h
  back_spared i (name ∷ rest) now rest_there at h = back_spared (i + 1) rest (with_file name (Some (file_of trace i)) now) rest_there.1 at.1 (by_written (written i) refl) where
    by_written : (p : Bool) → written i ≡ p → AreSpared changed folder (with_file name (Some (file_of trace i)) now)
    by_written true e = one_changed changed name (sym (ap (λ n. is_among n changed) at.0.name) ∙ may_attached i e) (file_of trace i) folder now h
    by_written false e =
        let c = can_attach name folder idle rest_there.0 in
        let same : seen (file_of trace i) ≡ seen c.0 = seen_as i e ∙ at.0.bytes ∙ ap (λ o. unwrap_or (option_map seen o) []) c.1 in
        one_kept changed name c.0 (file_of trace i) same (synced_as i e) folder now c.1 h

  back_idle : ((n : ℕ) → written n ≡ true → is_synced (file_of trace n) ≡ true) → (i : ℕ) (rest : List (List ℕ)) (now : List Held) → AllIdle now → AllIdle (back_from i (files_from rest) trace now)
  back_idle synced i [] now h = h
  back_idle synced i (name ∷ rest) now h = back_idle synced (i + 1) rest (with_file name (Some (file_of trace i)) now) (one_idle name (file_of trace i) now (by_written (written i) refl) h) where
    by_written : (p : Bool) → written i ≡ p → is_synced (file_of trace i) ≡ true
    by_written true e = synced i e
    by_written false e = synced_as i e

  -- the folder with the files over it
  now_is : given_back trace (without names folder) ≡ back_from 0 (files_from names) trace folder
  unfolding names_in
  now_is =
      ap (λ files. back_from 0 files trace (without names folder)) same
      ∙ ap (λ ns. back_from 0 (files_from names) trace (without ns folder)) (sym (names_attached names folder))
      ∙ back_over 0 (files_from names) trace folder (subst NoneTwice (sym (names_attached names folder)) once)

  pub are_spared : AreSpared changed folder (given_back trace (without names folder))
  are_spared = subst (AreSpared changed folder) (sym now_is) (back_spared 0 names folder there (each_at old.attached) (still_spared changed folder))

  pub spared_idle : ((n : ℕ) → written n ≡ true → is_synced (file_of trace n) ≡ true) → AllIdle (given_back trace (without names folder))
  spared_idle synced = subst AllIdle (sym now_is) (back_idle synced 0 names folder idle)
