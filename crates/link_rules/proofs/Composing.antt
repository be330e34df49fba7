-- What is left behind several answers, one after another.
use Rattle.std.proofs.Common.{◌≡◌, ℕ, Bool, true, false, List, [], ◌++◌, Option, Some, None, Result, Ok, Err, refl, sym, ap, subst, ◌∙◌}
use Rattle.std.specs.Prelude.{◌||◌}
use Rattle.std.specs.Str.{bytes_eq}
use Rattle.std.specs.Result.{IsErrAnd}
use Rattle.std.proofs.lemmas.List.Folds.{list_any-append}
use Rattle.store_model.specs.Cause.{Rose}
use Rattle.store_model.specs.Disk.{WhereTold}
use Rattle.store_model.specs.Folder.{Held, Hosted}
use Rattle.vhdx_format.proofs.FileLemmas.{stands_once}
use Rattle.vhdx_format.specs.SettledFiles.{StandsFor}
use Rattle.file_open.specs.Causes.{Meaning, refuses, host_failed, store_failed, no_memory}
use Rattle.file_open.specs.Effects.{OpensAlike}
use Rattle.file_open.proofs.Again.{opens_again}
use Rattle.link_rules.specs.Causes.{meaning_of, of_file}
use Rattle.vx_base.specs.declared.parts.Parts.{Parts}
use Rattle.file_open.specs.Opening as opening
use Rattle.link_rules.specs.Chains.{OpensIn, missing, present, is_among}
use Rattle.link_rules.specs.Effects.{HasReplayed, IsKept, untouched, replayed, KeepsEach, Leaves, LeavesBy, Replays, StaysIdle, Within}
use Rattle.link_rules.specs.Folders.{AllIdle, Contents, ReturnsHealthy, contents}
use Rattle.store_model.specs.Moments.{IsHealthy, LastReturnedCounts}
use Rattle.store_model.proofs.Throughout.{last_join, returned_join}
use Rattle.link_rules.specs.Steps.{IsInside}
use Rattle.link_rules.specs.declared.refusal.LinkRefusal.{LinkRefusal}
use Rattle.link_rules.proofs.Lent.{none_kept, none_replayed, idle_as}

pub among_append : (name : List ℕ) (a b : List (List ℕ)) → is_among name (a ++ b) ≡ (is_among name a || is_among name b)
among_append name a b = list_any-append (λ other. bytes_eq other name) a b

kept_both : (a b : List (List ℕ)) (name bytes now later : List ℕ) → IsKept a name bytes now → IsKept b name now later → IsKept (a ++ b) name bytes later
kept_both a b name bytes _ _ (untouched x) (untouched y) = untouched (among_append name a b ∙ ap (λ c. c || is_among name b) x ∙ y)
kept_both a b name bytes _ _ (replayed now x s) (untouched y) = replayed now (among_append name a b ∙ ap (λ c. c || is_among name b) x) s
kept_both a b name bytes _ _ (untouched x) (replayed later y s) = replayed later (among_append name a b ∙ ap (λ c. c || is_among name b) x ∙ y) s
kept_both a b name bytes _ _ (replayed now x s) (replayed later y t) =
    let same : later ≡ now = stands_once now later now t (opens_again bytes now s).stays in
    replayed later (among_append name a b ∙ ap (λ c. c || is_among name b) x) (subst (StandsFor bytes) (sym same) s)

replays_both : (a b : List (List ℕ)) (f g h : Contents) → Replays a f g → Replays b g h → Replays (a ++ b) f h
replays_both a b f g h x y = record {
  none = λ name none. y.none name (x.none name none);
  each =
      λ name bytes had.
      let one = x.each name bytes had in
      let two = y.each name one.0 one.1 in
      (two.0, two.1, kept_both a b name bytes one.0 two.0 one.2 two.2);
}

pub alike_itself : (bytes : List ℕ) → OpensAlike bytes bytes
alike_itself bytes = record { stands = λ b s. s; reads = λ r o. o; opens = λ r o. o }

alike_both : (a b c : List ℕ) → OpensAlike a b → OpensAlike b c → OpensAlike a c
alike_both a b c x y = record { stands = λ s h. y.stands s (x.stands s h); reads = λ r o. y.reads r (x.reads r o); opens = λ r o. y.opens r (x.opens r o) }

pub kept_alike : (opened : List (List ℕ)) (name bytes now : List ℕ) → IsKept opened name bytes now → OpensAlike bytes now
kept_alike opened name bytes _ (untouched x) = alike_itself bytes
kept_alike opened name bytes _ (replayed now x s) = (opens_again bytes now s).alike

pub replays_keep : (opened : List (List ℕ)) (f g : Contents) → Replays opened f g → KeepsEach f g
replays_keep opened f g x = record {
  none = x.none;
  each = λ name bytes had. let one = x.each name bytes had in (one.0, one.1, kept_alike opened name bytes one.0 one.2);
}

keeps_both : (f g h : Contents) → KeepsEach f g → KeepsEach g h → KeepsEach f h
keeps_both f g h x y = record {
  none = λ name none. y.none name (x.none name none);
  each =
      λ name bytes had.
      let one = x.each name bytes had in
      let two = y.each name one.0 one.1 in
      (two.0, two.1, alike_both bytes one.0 two.0 one.2 two.2);
}

within_both : (R S T : Contents → Contents → Type 0) → ((f g h : Contents) → R f g → S g h → T f h) → (a b c : Option (List Held)) → Within R a b → Within S b c → Within T a c
within_both R S T both a b c x y f told =
    let one = x f told in
    let two = y one.0 one.1 in
    (two.0, two.1, both (contents f) (contents one.0) (contents two.0) one.2 two.2)

idle_both : (R : Contents → Contents → Type 0) (a b c : Option (List Held)) → Within R a b → StaysIdle b c → StaysIdle a c
idle_both R a b c x y f told = let one = x f told in y one.0 one.1

-- ---- after files were opened

module _ (opened : List (List ℕ)) (old mid new : Hosted) (before : HasReplayed opened old mid) where
  files_then : Within KeepsEach mid.folder new.folder → Within KeepsEach old.folder new.folder
  files_then h = within_both (Replays opened) KeepsEach KeepsEach (λ f g h x y. keeps_both f g h (replays_keep opened f g x) y) old.folder mid.folder new.folder before.files h

  idle_then : StaysIdle mid.folder new.folder → StaysIdle old.folder new.folder
  idle_then h = idle_both (Replays opened) old.folder mid.folder new.folder before.files h

  healthy_then : ReturnsHealthy mid new → ReturnsHealthy old new
  healthy_then h f told = let one = before.files f told in returned_join IsHealthy old mid new (before.healthy f told) (h one.0 one.1)

  last_then : (count : ℕ) → WhereTold mid.folder (λ g. LastReturnedCounts count mid new) → WhereTold old.folder (λ f. LastReturnedCounts count old new)
  last_then count h f told = let one = before.files f told in last_join IsHealthy count old mid new (before.healthy f told) (h one.0 one.1)

  pub replayed_then : (more : List (List ℕ)) → HasReplayed more mid new → HasReplayed (opened ++ more) old new
  replayed_then more h = record {
    files = within_both (Replays opened) (Replays more) (Replays (opened ++ more)) (replays_both opened more) old.folder mid.folder new.folder before.files h.files;
    untold = λ none. h.untold (before.untold none);
    idle = idle_then h.idle;
    quiet = h.quiet ∙ before.quiet;
    healthy = healthy_then h.healthy;
  }

  pub left_then : {R : Type 0} (meaning : Meaning R) → LeavesBy mid new meaning → LeavesBy old new meaning
  left_then (refuses refusal) h = record { opened = opened ++ h.opened; has = replayed_then h.opened h.has }
  left_then (host_failed fault) h = record { files = files_then h.files; idle = idle_then h.idle; rose = subst (λ n. Rose n new.faults) before.quiet h.rose; told = h.told; healthy = healthy_then h.healthy }
  left_then (store_failed fault) h = record { files = files_then h.files; rose = subst (λ n. Rose n new.faults) before.quiet h.rose; some = h.some; last = last_then fault.count h.last }
  left_then no_memory h = record { files = files_then h.files; idle = idle_then h.idle; quiet = h.quiet ∙ before.quiet }

-- a refusal for which no file was opened
pub inside_left : {R : Type 0} (old : Hosted) (meaning : Meaning R) → WhereTold old.folder AllIdle → IsInside meaning → LeavesBy old old meaning
inside_left old (refuses refusal) idle h = record { opened = []; has = none_replayed old idle }
inside_left old (host_failed fault) idle h = absurd h
inside_left old (store_failed fault) idle h = absurd h
inside_left old no_memory idle h = record { files = none_kept old old refl; idle = idle_as old old refl idle; quiet = refl }

-- a refusal that is handed on
pub handed_on : {A : Type 0} (names : A → List (List ℕ)) (old new : Hosted) (result : Result A LinkRefusal) (refusal : LinkRefusal) → IsErrAnd result (λ e. e ≡ refusal) → LeavesBy old new (meaning_of refusal) → Leaves names old new result
handed_on names old new (Ok x) refusal is h = absurd is
handed_on names old new (Err e) refusal is h = subst (λ e. LeavesBy old new (meaning_of e)) (sym is) h

-- what opening a file leaves behind is what its refusal with the file's name does
pub named_left : (file : List ℕ) (old new : Hosted) (said : Meaning opening.Refusal) → LeavesBy old new said → LeavesBy old new (of_file file said)
named_left file old new (refuses refusal) h = h
named_left file old new (host_failed fault) h = h
named_left file old new (store_failed fault) h = h
named_left file old new no_memory h = h

-- nothing of the folder is unsynced then
pub still_idle : (opened : List (List ℕ)) (old mid : Hosted) → WhereTold old.folder AllIdle → HasReplayed opened old mid → WhereTold mid.folder AllIdle
still_idle opened old mid idle h = by_folder old.folder refl
  where
    by_folder : (folder : Option (List Held)) → old.folder ≡ folder → WhereTold mid.folder AllIdle
    by_folder None e t told = let never : None ≡ Some t = sym (h.untold e) ∙ told in cc
    by_folder (Some f) e t told = h.idle f e t told

-- ---- a file that wasn't opened is as it was

pub same_by : (opened : List (List ℕ)) (f g : Contents) (name : List ℕ) → Replays opened f g → is_among name opened ≡ false → g name ≡ f name
same_by opened f g name r apart = by_file (f name) refl
  where
    kept : (bytes now : List ℕ) → IsKept opened name bytes now → now ≡ bytes
    kept bytes _ (untouched x) = refl
    kept bytes _ (replayed now x s) = let never : true ≡ false = sym x ∙ apart in cc

    by_file : (file : Option (List ℕ)) → f name ≡ file → g name ≡ f name
    by_file None e = r.none name e ∙ sym e
    by_file (Some bytes) e =
        let one = r.each name bytes e in
        one.1 ∙ ap Some (kept bytes one.0 one.2) ∙ sym e

pub opens_same : (f g : Contents) (name : List ℕ) (result : Result Parts opening.Refusal) → g name ≡ f name → OpensIn g name result → OpensIn f name result
opens_same f g name _ same (missing none) = missing (sym same ∙ none)
opens_same f g name _ same (present bytes result had opens) = present bytes result (sym same ∙ had) opens

pub right_false : (a b : Bool) → (a || b) ≡ false → b ≡ false
right_false true b e = cc
right_false false b e = e

pub left_false : (a b : Bool) → (a || b) ≡ false → a ≡ false
left_false true b e = cc
left_false false b e = refl
