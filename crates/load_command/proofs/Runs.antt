-- What the guests of a load leave of a folder that is told, and the merge beside them.
use Rattle.std.proofs.Common.{◌≡◌, ◌++◌, ◌∷◌, ℕ, true, false, List, [], length, Option, Some, refl, sym, ap, subst, ◌∙◌}
use Rattle.std.specs.Str.{bytes_eq}
use Rattle.std.proofs.lemmas.Option.{same_Some}
use Rattle.std.proofs.lemmas.Slice.Eq.{bytes_eq-Decides}
use Rattle.store_model.specs.Disk.{WhereTold}
use Rattle.store_model.specs.Folder.{Held}
use Rattle.make_file.specs.Makes.{Outside}
use Rattle.guest_model.specs.History.{replay}
use Rattle.guest_model.specs.declared.refusal.ChainRefusal.{ChainRefusal}
use Rattle.chain_model.specs.Files.{OpensTo}
use Rattle.chain_model.proofs.Linking.{one_chain}
use Rattle.link_rules.specs.Chains.{names_of}
use Rattle.link_rules.specs.declared.linked.LinkedFile.{LinkedFile}
use Rattle.load_calls.specs.Load.{IsHistoryOf, load_lines, prepared_disk}
use Rattle.load_calls.specs.Printed.{seen_sum}
use Rattle.load_served.specs.Complete.{AreAnswered, AreGuests}
use Rattle.load_served.proofs.Complete.{answers_are_histories, answers_are_seen, loads_have_guests}
use Rattle.serve_session.specs.Served.{AreServed, asked_by, guest_count}
use Rattle.serve_session.specs.declared.tally.Tally.{Tally}
use Rattle.command_base.specs.Folders.{LeadsTo, files_of}
use Rattle.printing.specs.declared.status.Status.TheVariants.{Done}
use Rattle.serve_command.specs.Serves.{HasTally, IsMergeLeft, ServesLines, ServesOver, lines_served, lines_unopened}
use Rattle.steps_command.specs.Starts.{is_leaf}
use Rattle.steps_command.specs.Steps.{AreLeft, IsDropped, by_leaf, by_other, drive_over}
use Rattle.load_command.specs.Commands.{load_name, unheard}
use Rattle.load_command.specs.Growing.{HasRun, IsGrown, all_names}
use Rattle.load_command.specs.Stops.{HasServed}
use Rattle.load_command.proofs.ServedWell.{answered, count, has_begun, keeps, none_stopped, served_out, tally_is, unopened_undone}
use Rattle.grown_chains.proofs.Added.{links_lead, one_way}
use Rattle.load_command.proofs.Writes.{told_behind}

-- ---- five names, of which the third goes

split_third : {A : Type 0} (up : List A) (c s t : A) (bs : List A) (n4 n3 n2 n1 n0 : A) → up ++ c ∷ s ∷ t ∷ bs ≡ n4 ∷ n3 ∷ n2 ∷ n1 ∷ n0 ∷ [] → s ≡ n2 → (n3 ≡ n2 → ⊥) → (n1 ≡ n2 → ⊥)
    → up ++ c ∷ t ∷ bs ≡ n4 ∷ n3 ∷ n1 ∷ n0 ∷ []
split_third [] c s t bs n4 n3 n2 n1 n0 e is third first = absurd (third (let same : s ≡ n3 = cc in sym same ∙ is))
split_third (a ∷ []) c s t bs n4 n3 n2 n1 n0 e is third first = cc
split_third (a ∷ b ∷ []) c s t bs n4 n3 n2 n1 n0 e is third first = absurd (first (let same : s ≡ n1 = cc in sym same ∙ is))
split_third (a ∷ b ∷ d ∷ []) c s t bs n4 n3 n2 n1 n0 e is third first = absurd (let never : t ∷ bs ≡ [] = cc in cc)
split_third (a ∷ b ∷ d ∷ f ∷ []) c s t bs n4 n3 n2 n1 n0 e is third first = absurd (let never : s ∷ t ∷ bs ≡ [] = cc in cc)
split_third (a ∷ b ∷ d ∷ f ∷ g ∷ up) c s t bs n4 n3 n2 n1 n0 e is third first = absurd (let never : up ++ c ∷ s ∷ t ∷ bs ≡ [] = cc in none_there up c (s ∷ t ∷ bs) never)
  where
    none_there : {A : Type 0} (up : List A) (c : A) (bs : List A) → up ++ c ∷ bs ≡ [] → ⊥
    none_there [] c bs e = cc
    none_there (a ∷ up) c bs e = cc

names_append : (up bs : List LinkedFile) → names_of (up ++ bs) ≡ names_of up ++ names_of bs
names_append [] bs = refl
names_append (a ∷ up) bs = ap (λ ns. a.name ∷ ns) (names_append up bs)

unlike : (a b : ℕ) → load_name a ≡ load_name b → bytes_eq (load_name a) (load_name b) ≡ false → ⊥
unlike a b same differ = let never : true ≡ false = sym (eq_of (load_name b)) ∙ ap (λ n. bytes_eq n (load_name b)) (sym same) ∙ differ in cc
  where
    eq_of : (n : List ℕ) → bytes_eq n n ≡ true
    eq_of n = (bytes_eq-Decides n n).1 refl

-- the last file isn't the third
not_leaf : (files : List LinkedFile) → names_of files ≡ all_names → is_leaf files (load_name 2) ≡ true → ⊥
not_leaf [] named is = cc
not_leaf (leaf ∷ []) named is = cc
not_leaf (leaf ∷ target ∷ below) named is =
    let first : leaf.name ≡ load_name 4 = cc in
    let never : true ≡ false = sym is ∙ ap (λ n. bytes_eq n (load_name 2)) first in
    cc

left_of : (files : List LinkedFile) → names_of files ≡ all_names → (left : List (List ℕ)) → AreLeft files (load_name 2) left → left ≡ load_name 4 ∷ load_name 3 ∷ load_name 1 ∷ load_name 0 ∷ []
left_of files named _ (by_leaf m is of_it) = absurd (not_leaf files named is)
left_of files named _ (by_other m is of_it) =
    names_append m.above (m.child ∷ m.target ∷ m.below)
    ∙ split_third (names_of m.above) m.child.name m.source.name m.target.name (names_of m.below) _ _ _ _ _ (sym (ap names_of of_it.files_are ∙ names_append m.above (m.child ∷ m.source ∷ m.target ∷ m.below)) ∙ named) of_it.named
    (λ e. unlike 3 2 e refl) (λ e. unlike 1 2 e refl)

-- ---- the session

module _ (seed : ℕ) (before now : Outside) (tally : Tally) (h : HasServed (load_name 4) (Some (load_name 2)) (load_lines seed) before now tally) (f : List Held) (told : before.host.folder ≡ Some f) (grown : IsGrown 4 all_names (prepared_disk seed) f) where
  abbrev leaf : List ℕ
  leaf = load_name 4

  abbrev merge : Option (List ℕ)
  merge = Some (load_name 2)

  after : (g : List Held) × (now.host.folder ≡ Some g)
  after = told_behind before.host.folder now.host.folder h.tells f told

  module _ (s : ServesOver (load_name 4) (Some (load_name 2)) (unheard before) (unheard now) Done) (is : s.begun.lines ≡ load_lines seed) (heard : HasTally s.service (Some tally)) where
    same_disk : s.begun.disk ≡ prepared_disk seed
    same_disk = one_chain.disk (files_of f) leaf s.begun.disk (prepared_disk seed) (s.begun.opens f told) grown.opens

    four : length s.service.guests ≡ 4
    four = count leaf merge (unheard before) (unheard now) s ∙ ap guest_count is ∙ (loads_have_guests seed).guests

    abbrev were_answered : AreAnswered s.begun.lines s.service.guests
    were_answered = answered leaf merge (unheard before) (unheard now) s (Some tally) heard h.taken

    of_lines : IsHistoryOf (load_lines seed) s.service.history
    of_lines =
        let kept = keeps leaf merge (unheard before) (unheard now) s f told in
        subst (λ ls. IsHistoryOf ls s.service.history) is
        (answers_are_histories true _ s.begun.lines s.service.guests s.service.history s.service.ended s.service.broken kept.told_so
        (subst (λ k. AreGuests k s.begun.lines) (sym four) (subst (AreGuests 4) (sym is) (loads_have_guests seed).own)) were_answered)

    opens_after : OpensTo (files_of after.0) leaf (replay 512 (prepared_disk seed) s.service.history)
    opens_after =
        let kept = keeps leaf merge (unheard before) (unheard now) s f told in
        subst (λ d. OpensTo (files_of after.0) leaf (replay 512 d s.service.history)) same_disk (kept.at_rest (served_out leaf merge (unheard before) (unheard now) s) after.0 after.1)

    named : names_of s.begun.linked.files ≡ all_names
    named = one_way (files_of f) leaf (names_of s.begun.linked.files) all_names (links_lead f leaf s.begun.linked (s.begun.links f told)) grown.leads

    dropped : IsDropped leaf s.begun.linked now.host (load_name 2)
    dropped =
        let kept = keeps leaf merge (unheard before) (unheard now) s f told in
        subst (λ (o : Option ChainRefusal). IsMergeLeft o leaf s.begun.linked now.host (load_name 2)) (none_stopped leaf merge (unheard before) (unheard now) s)
        (kept.merged (served_out leaf merge (unheard before) (unheard now) s) (has_begun leaf merge (unheard before) (unheard now) s))

    leads_after : LeadsTo (files_of after.0) leaf (load_name 4 ∷ load_name 3 ∷ load_name 1 ∷ load_name 0 ∷ [])
    leads_after = subst (LeadsTo (files_of after.0) leaf) (left_of s.begun.linked.files named dropped.left dropped.are_left) (dropped.leads after.0 after.1)

    seen_is : tally.seen ≡ seen_sum (prepared_disk seed) s.service.history
    seen_is =
        let kept = keeps leaf merge (unheard before) (unheard now) s f told in
        let t = tally_is leaf merge (unheard before) (unheard now) s (Some tally) heard h.taken in
        ap (λ (x : Tally). x.seen) (same_Some tally t.0 t.1) ∙ t.2
        ∙ answers_are_seen true (drive_over false s.begun.disk) seed s.service.guests s.service.history s.service.ended s.service.broken
        (subst (λ ls. AreServed true (drive_over false s.begun.disk) (asked_by ls) s.service.guests s.service.history s.service.ended s.service.broken) is kept.told_so) four (subst (λ ls. AreAnswered ls s.service.guests) is were_answered)
        ∙ ap (λ d. seen_sum d s.service.history) same_disk

-- the guests of a load leave that of it
pub run_grows : (seed : ℕ) (before now : Outside) (tally : Tally) → HasServed (load_name 4) (Some (load_name 2)) (load_lines seed) before now tally
    → WhereTold before.host.folder (λ folder. IsGrown 4 all_names (prepared_disk seed) folder → HasRun seed now.host.folder (Some tally))
run_grows seed before now tally h f told grown = by_lines h.serves
  where
    by_lines : ServesLines (load_name 4) (Some (load_name 2)) (load_lines seed) (unheard before) (unheard now) Done (Some tally) → HasRun seed now.host.folder (Some tally)
    by_lines (lines_unopened u none) = absurd (unopened_undone (load_name 4) (unheard before) (unheard now) u)
    by_lines (lines_served s is heard) =
        let g = after seed before now tally h f told grown in
        record {
          folder = g.0;
          told = g.1;
          history = s.service.history;
          of_lines = of_lines seed before now tally h f told grown s is heard;
          opens = opens_after seed before now tally h f told grown s is heard;
          leads = leads_after seed before now tally h f told grown s is heard;
          tally = tally;
          heard_is = refl;
          seen_is = seen_is seed before now tally h f told grown s is heard;
        }
