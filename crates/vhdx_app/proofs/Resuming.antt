-- What a crash leaves can be resumed.
use Rattle.std.proofs.Common.{◌≡◌, ◌≤◌, ℕ, suc, zero, ◌||◌, Bool, true, false, cond, List, [], ◌∷◌, ◌++◌, length, Option, Some, None, Result, Ok, Err, refl, sym, ap, subst, ◌∙◌, arith}
use Rattle.std.specs.Prelude.{option_map}
use Rattle.std.specs.List.{AllByRecursion}
use Rattle.std.specs.Str.{bytes_eq}
use Rattle.std.proofs.lemmas.Bool.{or_left, or_right}
use Rattle.std.proofs.lemmas.List.{map-append}
use Rattle.std.proofs.lemmas.Option.{none-some, same_Some}
use Rattle.std.proofs.lemmas.Slice.Eq.{bytes_eq-Decides}
use Rattle.store_model.specs.File.{seen}
use Rattle.store_model.specs.Folder.{Held, Hosted, IsFolderImage, file_named, fresh}
use Rattle.store_model.specs.Moments.{Throughout}
use Rattle.store_model.specs.Trace.{NamedBytes}
use Rattle.store_model.proofs.Throughout.{throughout_weaken}
use Rattle.guest_model.specs.Calls.{Disk}
use Rattle.guest_model.specs.History.{History}
use Rattle.file_open.specs.Effects.{IsLongEnough}
use Rattle.chain_model.specs.Files.{HasParts, IsIn, IsLinked, IsWhole, OpensWithin, at_rest, files_in}
use Rattle.chain_model.specs.Members.{Member, disk_of, Way}
use Rattle.chain_model.specs.Members as model
use Rattle.chain_model.proofs.Linking.{all_whole_in_more, more_files_link_alike, one_chain}
use Rattle.chain_model.proofs.NewFiles.{parts_stand}
use Rattle.link_rules.specs.Chains.{Links, is_among, names_of}
use Rattle.link_rules.specs.Chains as chains
use Rattle.link_rules.specs.Effects.{linked_names}
use Rattle.link_rules.specs.Folders.{AllIdle, Contents, contents}
use Rattle.link_rules.specs.Laws.{AreMembers, at_rest_all}
use Rattle.link_rules.specs.Touches.{AreSafe, IsOnWay}
use Rattle.link_rules.specs.declared.linked.Linked.{Linked}
use Rattle.link_rules.proofs.Alike.{images_alike, long_enough}
use Rattle.link_rules.proofs.Chained.{names_same}
use Rattle.link_rules.proofs.EachChain.{chains_are_linked}
use Rattle.link_rules.proofs.OneLinking.{one_linking}
use Rattle.steps_command.specs.Crashes.{OpensToFirst}
use Rattle.command_base.specs.Folders.{files_of}
use Rattle.command_base.specs.Printed.{RefusesLeaf, unlinked}
use Rattle.command_base.specs.Refusals.{Refusal}
use Rattle.vhdx_app.specs.Resuming.{CanResume, IsRunOver, OpeningsResume, ResumedRunsGoOn, ResumesFirst, ResumesWithin, RunsResume, SessionsResume, restarted}
use Rattle.steps_command.specs.Steps.{way_by}
use Rattle.command_base.specs.Worlds.{World}
use Rattle.script_session.specs.Histories.{Break}
use Rattle.script_session.specs.Running.{open_by}
use Rattle.command_base.proofs.OneAnswer.{not_two}

-- ---- the files that a restart finds are those of the image

restarted_files : (image : List NamedBytes) (name : List ℕ) → files_of (restarted image) name ≡ files_in image name
restarted_files [] name = refl
restarted_files (f ∷ image) name = by_name (bytes_eq f.name name) refl (restarted_files image name)
  where
    by_name : (p : Bool) → bytes_eq f.name name ≡ p → files_of (restarted image) name ≡ files_in image name → files_of (restarted (f ∷ image)) name ≡ files_in (f ∷ image) name
    by_name true e further =
        ap (λ c. option_map at_rest (option_map seen (cond c (Some (fresh f.bytes)) (file_named name (restarted image))))) e
        ∙ sym (ap (λ c. cond c (Some (at_rest f.bytes)) (files_in image name)) e)
    by_name false e further =
        ap (λ c. option_map at_rest (option_map seen (cond c (Some (fresh f.bytes)) (file_named name (restarted image))))) e ∙ further
        ∙ sym (ap (λ c. cond c (Some (at_rest f.bytes)) (files_in image name)) e)

restarted_idle : (image : List NamedBytes) → AllIdle (restarted image)
restarted_idle [] k d h = absurd (omega (arith, h))
restarted_idle (f ∷ image) zero d h = (fresh f.bytes, refl, refl)
restarted_idle (f ∷ image) (suc k) d h = restarted_idle image k d (omega (arith, h))

-- ---- files that are long enough, by members and by names

long_of : (files : Contents) (members : List Member) → AllByRecursion (IsIn (at_rest_all files)) members → AllByRecursion (IsWhole (at_rest_all files)) members
    → (name bytes : List ℕ) → is_among name (model.names_of members) ≡ true → files name ≡ Some bytes → IsLongEnough bytes
long_of files [] there whole name bytes among had = cc
long_of files (m ∷ members) there whole name bytes among had = by_name (bytes_eq m.name name) refl among (λ rest. long_of files members there.1 whole.1 name bytes rest had)
  where
    by_name : (p : Bool) → bytes_eq m.name name ≡ p → (p || is_among name (model.names_of members)) ≡ true → (is_among name (model.names_of members) ≡ true → IsLongEnough bytes) → IsLongEnough bytes
    by_name true e among further =
        let here : at_rest_all files m.name ≡ Some (at_rest bytes) = ap (at_rest_all files) ((bytes_eq-Decides m.name name).0 e) ∙ ap (option_map at_rest) had in
        let same : at_rest bytes ≡ there.0.file = same_Some (at_rest bytes) there.0.file (sym here ∙ there.0.there) in
        let has : HasParts (at_rest bytes) there.0.held there.0.parts = subst (λ f. HasParts f there.0.held there.0.parts) (sym same) there.0.reads in
        long_enough bytes there.0.held there.0.parts has (whole.0 (at_rest bytes) here there.0.held there.0.parts has)
    by_name false e among further = further among

whole_one : (files : Contents) (m : Member) → ((bytes : List ℕ) → files m.name ≡ Some bytes → IsLongEnough bytes) → IsWhole (at_rest_all files) m
whole_one files m long file there held parts reads = by_file (files m.name) refl
  where
    by_file : (was : Option (List ℕ)) → files m.name ≡ was → length held ≤ length file.bytes
    by_file None e = absurd (none-some file (sym (ap (option_map at_rest) e) ∙ there))
    by_file (Some bytes) e =
        let same : at_rest bytes ≡ file = same_Some (at_rest bytes) file (sym (ap (option_map at_rest) e) ∙ there) in
        subst (λ f. length held ≤ length f.bytes) same (long bytes e held (parts_stand bytes held parts (subst (λ f. HasParts f held parts) (sym same) reads)))

whole_of : (files : Contents) (members : List Member) → ((name bytes : List ℕ) → is_among name (model.names_of members) ≡ true → files name ≡ Some bytes → IsLongEnough bytes) → AllByRecursion (IsWhole (at_rest_all files)) members
whole_of files [] long = tt
whole_of files (m ∷ members) long = (
  whole_one files m (λ bytes had. long m.name bytes (or_left (bytes_eq m.name m.name) (is_among m.name (model.names_of members)) ((bytes_eq-Decides m.name m.name).1 refl)) had),
  whole_of files members (λ name bytes among had. long name bytes (or_right (bytes_eq m.name name) (is_among name (model.names_of members)) among) had),
)

-- the names of a chain, and of the retired leaves before it
names_linked : (retired chain : List Member) (linked : Linked) → model.names_of retired ≡ linked.retired → AreMembers chain linked.files → model.names_of (retired ++ chain) ≡ linked_names linked
names_linked retired chain linked names are =
    map-append (λ (m : Member). m.name) retired chain ∙ ap (λ ns. ns ++ model.names_of chain) names ∙ ap (λ ns. linked.retired ++ ns) (names_same chain linked.files are)

-- ---- a chain of an image

can_resume : (leaf : List ℕ) (image : List NamedBytes) (retired chain : List Member) → IsLinked (files_in image) leaf retired chain → AllByRecursion (IsWhole (files_in image)) (retired ++ chain) → CanResume leaf (model.names_of chain) (disk_of chain) image
can_resume leaf image retired chain linked whole =
    let found : (name : List ℕ) (file : _) → files_in image name ≡ Some file → files_of (restarted image) name ≡ Some file = λ name file had. restarted_files image name ∙ had in
    let there = more_files_link_alike (files_in image) (files_of (restarted image)) leaf retired chain found linked in
    let as_long = all_whole_in_more (files_in image) (files_of (restarted image)) found (retired ++ chain) linked.there whole in
    let c = chains_are_linked (contents (restarted image)) leaf retired chain there in
    record {
      idle = restarted_idle image;
      linked = c.found;
      links = c.links;
      are = sym (names_same chain c.found.files c.members);
      opens = record { retired = retired; chain = chain; linked = there; is = refl };
      long = λ name bytes among had.
          long_of (contents (restarted image)) (retired ++ chain) there.there as_long name bytes (subst (λ ns. is_among name ns ≡ true) (sym (names_linked retired chain c.found c.names c.members)) among) had;
    }

resumes_within : (leaf : Way) (among : ℕ → Bool) (disk : Disk) (image : List NamedBytes) → OpensWithin (files_in image) leaf among disk → ResumesWithin leaf among disk image
resumes_within leaf among disk image o = record { names = model.names_of o.chain; own = disk_of o.chain; by = o.by; resumes = can_resume leaf.name image o.retired o.chain o.linked o.whole; agrees = o.agrees }

module _ (leaf : Way) (disk : Disk) (h : History) (broken : Option Break) (old new : Hosted) where
  resumes_throughout : Throughout (OpensToFirst leaf disk h (open_by broken)) old new → Throughout (ResumesFirst leaf disk h broken) old new
  resumes_throughout past =
      throughout_weaken (OpensToFirst leaf disk h (open_by broken)) (ResumesFirst leaf disk h broken) old new (λ f o. record { m = o.m; within = o.within; resumes = λ image is. resumes_within leaf _ _ image (o.opens image is) }) past

pub runs_resume : RunsResume
runs_resume leaf merge read_only before now status run = record {
  moments = λ folder told. resumes_throughout (way_by leaf run.begun.linked merge) run.begun.disk run.ran.history run.ran.broken run.opened now.host (run.kept folder told).moments;
  last = λ folder told f is image left. resumes_within (way_by leaf run.begun.linked merge) _ _ image ((run.kept folder told).last f is image left);
}

pub sessions_resume : SessionsResume
sessions_resume leaf linked disk merge asking service meant before now session = record {
  moments = λ folder told. resumes_throughout (way_by leaf linked merge) disk service.history service.broken session.opened now.host (session.kept folder told).moments;
  last = λ folder told f is image left. resumes_within (way_by leaf linked merge) _ _ image ((session.kept folder told).last f is image left);
}

-- ---- its opening, cut off

same_linked : (a b : Linked) → (let r : Result Linked chains.Refusal = Ok a in r) ≡ Ok b → a ≡ b
same_linked a b e = cc

module _ (leaf : List ℕ) (names : List (List ℕ)) (disk : Disk) (image : List NamedBytes) (can : CanResume leaf names disk image) where
  abbrev folder : List Held
  folder = restarted image

  abbrev retired : List Member
  retired = can.opens.retired

  abbrev chain : List Member
  chain = can.opens.chain

  found_names : (model.names_of (retired ++ chain) ≡ linked_names can.linked) × (model.names_of chain ≡ names)
  found_names =
      let c = chains_are_linked (contents folder) leaf retired chain can.opens.linked in
      let same : c.found ≡ can.linked = same_linked c.found can.linked (one_linking (contents folder) leaf (Ok c.found) (Ok can.linked) c.links can.links) in (
        names_linked retired chain c.found c.names c.members ∙ ap linked_names same,
        names_same chain c.found.files c.members ∙ ap (λ (l : Linked). names_of l.files) same ∙ can.are,
      )

  as_long : AllByRecursion (IsWhole (files_of folder)) (retired ++ chain)
  as_long = whole_of (contents folder) (retired ++ chain) (λ name bytes among had. can.long name bytes (subst (λ ns. is_among name ns ≡ true) found_names.0 among) had)

  -- what a crash leaves of the files while they are touched safely
  left_resumes : (now : List Held) (left : List NamedBytes) → AreSafe (IsOnWay (contents folder) leaf) folder now → IsFolderImage now left → CanResume leaf names disk left
  left_resumes now left safe is =
      let stays = images_alike folder now left leaf retired chain can.idle safe is as_long can.opens.linked in
      subst (λ d. CanResume leaf names d left) can.opens.is (subst (λ ns. CanResume leaf ns (disk_of chain) left) found_names.1 (can_resume leaf left retired chain stays.0 stays.1))

  go_on : (before : World) → before.host.folder ≡ Some (restarted image) → IsRunOver leaf names disk before
  go_on before found = record {
    opens = λ refusal refused. never refusal refused;
    is = λ kind begun. (
      one_chain.disk (files_of folder) leaf begun.disk disk (begun.opens folder found) can.opens,
      ap (λ (l : Linked). names_of l.files) (same_linked begun.linked can.linked (one_linking (contents folder) leaf (Ok begun.linked) (Ok can.linked) (begun.links folder found) can.links)) ∙ can.are,
    );
  }
    where
      never : (refusal : Refusal) → RefusesLeaf before.host.folder leaf refusal → ⊥
      never _ (unlinked rule links) = not_two can.linked rule (one_linking (contents folder) leaf (Ok can.linked) (Err rule) can.links (links folder found))

pub openings_resume : OpeningsResume
openings_resume leaf names disk image old new can found touches =
    throughout_weaken (AreSafe (IsOnWay (contents (restarted image)) leaf) (restarted image)) (λ folder. (left : List NamedBytes) → IsFolderImage folder left → CanResume leaf names disk left) old new
    (λ now safe left is. left_resumes leaf names disk image can now left safe is) (touches (restarted image) found)

pub resumed_runs_go_on : ResumedRunsGoOn
resumed_runs_go_on leaf names disk image before can found = go_on leaf names disk image can before found
