-- What refuses a session over a chain, and what is drawn for it: found of the files once they were opened, it was so of them before.
use Rattle.std.proofs.Common.{◌≡◌, ℕ, Bool, true, false, List, [], ◌∷◌, Option, Some, None, refl, sym, ap, subst, ◌∙◌}
use Rattle.std.proofs.lemmas.Option.{same_Some}
use Rattle.file_open.specs.Causes.{cause_in}
use Rattle.store_model.specs.Disk.{WhereTold}
use Rattle.store_model.specs.Folder.{Held, Hosted}
use Rattle.chain_core.specs.MergeStarting.{chain_files}
use Rattle.link_rules.specs.Chains.{is_among, names_of}
use Rattle.link_rules.specs.Effects.{Replays, linked_names}
use Rattle.link_rules.specs.Folders.{contents}
use Rattle.link_rules.specs.declared.linked.Linked.{Linked}
use Rattle.link_rules.specs.declared.linked.LinkedFile.{LinkedFile}
use Rattle.merge_plan.specs.LeafMerging.{AreOfLeaf, LeafFiles}
use Rattle.merge_plan.specs.Merging.{MergeFiles}
use Rattle.merge_plan.specs.declared.drawing.MergeIds.{MergeIds}
use Rattle.merge_plan.specs.declared.leaf_drawing.LeafMergeIds.{LeafMergeIds}
use Rattle.command_base.specs.Causes.{meaning_of_chain}
use Rattle.command_base.specs.Making.{ShowIds}
use Rattle.command_base.specs.Refusals.{IsBase, NotInChain, Refusal}
use Rattle.steps_command.specs.Sessions.{IsFollowedTo, is_reading, meaning_of_steps, mode_of}
use Rattle.steps_command.specs.Sessions as code
use Rattle.command_base.specs.Folders.{StandsSo}
use Rattle.steps_command.specs.Starts.{DrawsFor, IsFullIn, IsLeafFullIn, JudgesDrawn, JudgesLeafMerge, JudgesMerge, JudgesMergeOf, RefusesLeafMerge, RefusesMerge, RefusesSession, is_leaf}
use Rattle.steps_command.specs.Starts as starts
use Rattle.command_base.specs.declared.refusal.ChainRefusal.{ChainRefusal}
use Rattle.steps_command.specs.declared.refusal.StepsRefusal.{StepsRefusal}
use Rattle.steps_command.specs.declared.refusal.StepsRefusal.TheVariants as refusal
use Rattle.steps_command.proofs.Behind.{told_mid}
use Rattle.command_base.proofs.Followed.{shown_before, stands_before}
use Rattle.steps_command.proofs.MergePlaces.{child_in, named_among, source_in}

-- a rule refuses it
abbrev pub IsNoChain : StepsRefusal → Type 0
IsNoChain (refusal.Chain x) = ⊥
IsNoChain other = Unit {0}

pub ruleless : (ro : Bool) (merge : Option (List ℕ)) (linked : Linked) (folder : Option (List Held)) (before now : Option (List (List ℕ))) (x : ChainRefusal) → code.HasCauseIn (mode_of ro) merge linked folder before now (refusal.Chain x) → code.IsNoRule (meaning_of_chain x)
ruleless ro None linked folder before now x c = c
ruleless false (Some name) linked folder before now x c = by_kind (is_leaf linked.files name) c
  where
    by_kind : (b : Bool) → code.HasMergeCauseOf b linked name folder before now (refusal.Chain x) → code.IsNoRule (meaning_of_chain x)
    by_kind true c = c
    by_kind false c = c
ruleless true (Some name) linked folder before now x c = c

module _ (leaf : List ℕ) (linked : Linked) (was mid : Hosted) (h : IsFollowedTo leaf linked was mid) (before now : Option (List (List ℕ))) (ro : Bool) where
  shown_known : (known : List (List ℕ)) → WhereTold mid.folder (λ g. ShowIds (contents g) linked.files known) → WhereTold was.folder (λ f. ShowIds (contents f) linked.files known)
  shown_known known shown f told =
      let g = told_mid leaf linked was mid h f told in
      shown_before (contents f) (contents g.0) leaf linked known (h.links f told) g.2 (shown g.0 g.1)

  draws_for : (unfit : Option (List ℕ)) → JudgesDrawn linked mid.folder before now unfit → JudgesDrawn linked was.folder before now unfit
  draws_for unfit j = record { unspent = j.unspent; ids = j.ids; draws = j.draws; known = j.known; shown = shown_known j.known j.shown; judged = j.judged }

  -- ---- what refuses a session

  room_before : (file : LinkedFile) (P : List ℕ → Type 0) → is_among file.name (names_of linked.files) ≡ true → WhereTold mid.folder (λ g. StandsSo (contents g) file.name P) → WhereTold was.folder (λ f. StandsSo (contents f) file.name P)
  room_before file P among so f told =
      let g = told_mid leaf linked was mid h f told in
      stands_before (contents f) (contents g.0) leaf linked file.name P g.2 among (so g.0 g.1)

  judges_for : (name : List ℕ) (unfit : Option (List ℕ)) → JudgesMerge linked name mid.folder before now unfit → JudgesMerge linked name was.folder before now unfit
  judges_for name unfit j = record {
    m = j.m;
    ids = j.ids;
    unspent = j.unspent;
    begun = j.begun;
    short = j.short;
    source = room_before j.m.source _ (source_in linked.files j.m j.begun.files_are.files_are) j.source;
    child = room_before j.m.child _ (child_in linked.files j.m j.begun.files_are.files_are) j.child;
    known = j.known;
    shown = shown_known j.known j.shown;
    judged = j.judged;
  }

  full_before : (m : MergeFiles) (ids : MergeIds) (file : List ℕ) → linked.files ≡ chain_files m → WhereTold mid.folder (λ g. IsFullIn (contents g) m ids file) → WhereTold was.folder (λ f. IsFullIn (contents f) m ids file)
  full_before m ids file are full f told = let g = told_mid leaf linked was mid h f told in by_full g.0 g.2 file (full g.0 g.1) where
    by_full : (g : List Held) → Replays (linked_names linked) (contents f) (contents g) → (file : List ℕ) → IsFullIn (contents g) m ids file → IsFullIn (contents f) m ids file
    by_full g replays _ (starts.in_source lacks) = starts.in_source (stands_before (contents f) (contents g) leaf linked m.source.name _ replays (source_in linked.files m are) lacks)
    by_full g replays _ (starts.in_child has lacks) =
        starts.in_child (stands_before (contents f) (contents g) leaf linked m.source.name _ replays (source_in linked.files m are) has)
        (stands_before (contents f) (contents g) leaf linked m.child.name _ replays (child_in linked.files m are) lacks)

  -- with the leaf's merge

  source_there : (m : LeafFiles) → AreOfLeaf linked.files m → is_among m.source.name (names_of linked.files) ≡ true
  source_there m are = named_among [] m.source (m.target ∷ m.below) linked.files are

  leaf_judges : (unfit : Option (List ℕ)) → JudgesLeafMerge linked mid.folder before now unfit → JudgesLeafMerge linked was.folder before now unfit
  leaf_judges unfit j = record {
    m = j.m;
    ids = j.ids;
    unspent = j.unspent;
    begun = j.begun;
    short = j.short;
    link = room_before j.m.source _ (source_there j.m j.begun.files_are) j.link;
    retired = room_before j.m.source _ (source_there j.m j.begun.files_are) j.retired;
    known = j.known;
    shown = shown_known j.known j.shown;
    judged = j.judged;
  }

  leaf_full_before : (m : LeafFiles) (ids : LeafMergeIds) (file : List ℕ) → AreOfLeaf linked.files m → WhereTold mid.folder (λ g. IsLeafFullIn (contents g) m ids file) → WhereTold was.folder (λ f. IsLeafFullIn (contents f) m ids file)
  leaf_full_before m ids file are full f told = let g = told_mid leaf linked was mid h f told in by_full g.0 g.2 file (full g.0 g.1) where
    by_full : (g : List Held) → Replays (linked_names linked) (contents f) (contents g) → (file : List ℕ) → IsLeafFullIn (contents g) m ids file → IsLeafFullIn (contents f) m ids file
    by_full g replays _ (starts.for_link lacks) = starts.for_link (stands_before (contents f) (contents g) leaf linked m.source.name _ replays (source_there m are) lacks)
    by_full g replays _ (starts.for_name has lacks) =
        starts.for_name (stands_before (contents f) (contents g) leaf linked m.source.name _ replays (source_there m are) has)
        (stands_before (contents f) (contents g) leaf linked m.source.name _ replays (source_there m are) lacks)

  abbrev LeafRefused : Refusal → Type 0
  LeafRefused r = RefusesLeafMerge linked was.folder before now r

  abbrev Refused_ : Option (List ℕ) → Refusal → Type 0
  Refused_ k r = RefusesSession ro linked was.folder before now k r

  leaf_merge_refused : (x : StepsRefusal) → code.HasLeafMergeCause linked mid.folder before now x → (r : Refusal) → cause_in (meaning_of_steps x) ≡ Some r → IsNoChain x → LeafRefused r
  leaf_merge_refused (refusal.Chain x) c r is none = absurd none
  leaf_merge_refused (refusal.Spent number) c r is none = subst LeafRefused (same_Some _ r is) (starts.leaf_spent number c.0 c.1)
  leaf_merge_refused (refusal.IdUnfit id) c r is none = subst LeafRefused (same_Some _ r is) (starts.leaf_unfit id (leaf_judges (Some id) c))
  leaf_merge_refused refusal.ReadOnly c r is none = absurd c
  leaf_merge_refused (refusal.NotInChain other) c r is none = absurd c
  leaf_merge_refused (refusal.IsBase other) c r is none = absurd c
  leaf_merge_refused (refusal.LocatorTooLarge len) c r is none = subst LeafRefused (same_Some _ r is) (starts.link_too_large c.0 c.1 len c.2.unspent c.2.begun c.3)
  leaf_merge_refused (refusal.MetadataFull file) c r is none = subst LeafRefused (same_Some _ r is) (starts.leaf_full c.0 c.1 file c.2.unspent c.2.begun c.3 (leaf_full_before c.0 c.1 file c.2.begun.files_are c.4))

  leaf_refused : (x : StepsRefusal) → code.HasLeafCause linked mid.folder before now x → (r : Refusal) → cause_in (meaning_of_steps x) ≡ Some r → IsNoChain x → Refused_ None r
  leaf_refused (refusal.Chain x) c r is none = absurd none
  leaf_refused (refusal.Spent number) c r is none = subst (Refused_ None) (same_Some _ r is) (starts.spent number c.0 c.1)
  leaf_refused (refusal.IdUnfit id) c r is none = subst (Refused_ None) (same_Some _ r is) (starts.id_unfit id (draws_for (Some id) c))
  leaf_refused refusal.ReadOnly c r is none = absurd c
  leaf_refused (refusal.NotInChain name) c r is none = absurd c
  leaf_refused (refusal.IsBase name) c r is none = absurd c
  leaf_refused (refusal.LocatorTooLarge len) c r is none = absurd c
  leaf_refused (refusal.MetadataFull file) c r is none = absurd c

  abbrev OtherRefused : List ℕ → Refusal → Type 0
  OtherRefused name r = RefusesMerge linked name was.folder before now r

  merge_refused : (name : List ℕ) (x : StepsRefusal) → code.HasMergeCause linked name mid.folder before now x → (r : Refusal) → cause_in (meaning_of_steps x) ≡ Some r → IsNoChain x → OtherRefused name r
  merge_refused name (refusal.Chain x) c r is none = absurd none
  merge_refused name (refusal.Spent number) c r is none = subst (OtherRefused name) (same_Some _ r is) (starts.is_spent number c.0 c.1)
  merge_refused name (refusal.IdUnfit id) c r is none = subst (OtherRefused name) (same_Some _ r is) (starts.is_unfit id (judges_for name (Some id) c))
  merge_refused name refusal.ReadOnly c r is none = absurd c
  merge_refused name (refusal.NotInChain other) c r is none = subst (OtherRefused name) (ap NotInChain (sym c.same) ∙ same_Some _ r is) (starts.not_in_chain c.unspent c.so c.undrawn)
  merge_refused name (refusal.IsBase other) c r is none = subst (OtherRefused name) (ap IsBase (sym c.same) ∙ same_Some _ r is) (starts.is_base c.unspent c.so c.undrawn)
  merge_refused name (refusal.LocatorTooLarge len) c r is none = subst (OtherRefused name) (same_Some _ r is) (starts.locator_too_large c.0 c.1 len c.2.unspent c.2.begun c.3)
  merge_refused name (refusal.MetadataFull file) c r is none = subst (OtherRefused name) (same_Some _ r is) (starts.metadata_full c.0 c.1 file c.2.unspent c.2.begun c.3 (full_before c.0 c.1 file c.2.begun.files_are.files_are c.4))

  barred_refused : (name : List ℕ) (x : StepsRefusal) → ro ≡ true → code.IsBarred before now x → (r : Refusal) → cause_in (meaning_of_steps x) ≡ Some r → IsNoChain x → Refused_ (Some name) r
  barred_refused name (refusal.Chain x) e c r is none = absurd none
  barred_refused name refusal.ReadOnly e c r is none = subst (Refused_ (Some name)) (same_Some _ r is) (starts.merge_in_reading name e c)
  barred_refused name (refusal.Spent number) e c r is none = absurd c
  barred_refused name (refusal.IdUnfit id) e c r is none = absurd c
  barred_refused name (refusal.NotInChain other) e c r is none = absurd c
  barred_refused name (refusal.IsBase other) e c r is none = absurd c
  barred_refused name (refusal.LocatorTooLarge len) e c r is none = absurd c
  barred_refused name (refusal.MetadataFull file) e c r is none = absurd c

  pub refuses_by : (b : Bool) (k : Option (List ℕ)) (x : StepsRefusal) → ro ≡ b → code.HasCauseIn (mode_of b) k linked mid.folder before now x → (r : Refusal) → cause_in (meaning_of_steps x) ≡ Some r → IsNoChain x → Refused_ k r
  refuses_by b None x e c r is none = leaf_refused x c r is none
  refuses_by false (Some name) x e c r is none = either_refused (is_leaf linked.files name) refl c
    where
      either_refused : (b : Bool) → is_leaf linked.files name ≡ b → code.HasMergeCauseOf b linked name mid.folder before now x → Refused_ (Some name) r
      either_refused true kind c = starts.refuses_leaf_merge name r e kind (leaf_merge_refused x c r is none)
      either_refused false kind c = starts.refuses_merge name r e kind (merge_refused name x c r is none)
  refuses_by true (Some name) x e c r is none = barred_refused name x e c r is none

  -- what was drawn
  pub drawn_before : (merge : Option (List ℕ)) (b : Bool) → DrawsFor (is_reading (mode_of b)) merge linked mid.folder before now → DrawsFor b merge linked was.folder before now
  drawn_before None true d = d
  drawn_before None false d = draws_for None d
  drawn_before (Some name) true d = absurd d
  drawn_before (Some name) false d = either_judges (is_leaf linked.files name) d
    where
      either_judges : (b : Bool) → JudgesMergeOf b linked name mid.folder before now None → JudgesMergeOf b linked name was.folder before now None
      either_judges true d = leaf_judges None d
      either_judges false d = judges_for name None d
