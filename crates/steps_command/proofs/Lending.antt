-- The files of a chain that are lent can be started.
use Rattle.std.proofs.Common.{◌≡◌, ℕ, ◌+◌, ◌≤◌, true, false, List, [], ◌∷◌, length, Option, Some, None, refl, sym, ap, subst, ◌∙◌, arith}
use Rattle.std.specs.Prelude.{option_map}
use Rattle.std.proofs.lemmas.Option.{same_Some}
use Rattle.store_model.specs.Disk.{Disk, WhereTold}
use Rattle.store_model.specs.File.{is_sealed, is_synced}
use Rattle.store_model.specs.Folder.{Held, Hosted, attached_trace}
use Rattle.store_model.specs.Trace.{Trace, file_of}
use Rattle.std.proofs.lemmas.List.{length-map}
use Rattle.chain_model.specs.Files.{HasParts, at_rest}
use Rattle.chain_model.specs.Members.{NoneTwice}
use Rattle.link_rules.specs.Chains.{names_of}
use Rattle.link_rules.specs.Folders.{contents}
use Rattle.link_rules.specs.declared.linked.Linked.{Linked}
use Rattle.link_rules.specs.declared.linked.LinkedFile.{LinkedFile}
use Rattle.merge_plan.specs.Attached.{AreAsOpened, AreAttached, BeginsInUse, CanStart}
use Rattle.command_base.specs.Commands.{AreOpened, AreShort, Lends}
use Rattle.steps_command.specs.Sessions.{AreLent, AreLentFrom, IsLentChain, IsLinkedChain}
use Rattle.command_base.proofs.Back.{attached_as, bytes_there}
use Rattle.command_base.proofs.Followed.{last_once}
use Rattle.command_base.proofs.Lent.{AreAt, each_at, names_attached}

fresh_synced : (names : List (List ℕ)) (folder : List Held) (i : ℕ) → is_synced (file_of (attached_trace names folder) i) ≡ true
unfolding file_of
fresh_synced names folder i = refl

fresh_unsealed : (names : List (List ℕ)) (folder : List Held) (i : ℕ) → is_sealed (file_of (attached_trace names folder) i) ≡ false
unfolding file_of
fresh_unsealed names folder i = refl

module _ (names : List (List ℕ)) (folder : List Held) where
  abbrev trace : Trace
  trace = attached_trace names folder

  lent_from : (i : ℕ) (files : List LinkedFile) → AreAt trace.attached i (attached_as folder files) → AreOpened (contents folder) files → AreLentFrom trace i files
  lent_from i [] at opened = tt
  lent_from i (file ∷ files) at opened = (
    record {
      name = at.0.name;
      synced = fresh_synced names folder i;
      unsealed = fresh_unsealed names folder i;
      reads = subst (λ b. HasParts (at_rest b) b file.parts) (sym (bytes_there names folder i file.name opened.0.bytes at.0.bytes opened.0.there)) opened.0.reads;
    },
    lent_from (i + 1) files at.1 opened.1,
  )

-- a chain's files, as a folder lends them
pub are_lent : (files : List LinkedFile) (folder : List Held) → NoneTwice (names_of files) → BeginsInUse files → AreOpened (contents folder) files → AreLent files (attached_trace (names_of files) folder)
are_lent files folder once in_use opened = record {
  all = sym (length-map (names_of files) _ ∙ length-map files _);
  once = subst NoneTwice (sym (names_attached (names_of files) folder)) once;
  in_use = in_use;
  each = lent_from (names_of files) folder 0 files (each_at (attached_trace (names_of files) folder).attached) opened;
}

as_opened : (trace : Trace) (most i : ℕ) (files : List LinkedFile) → AreLentFrom trace i files → i + length files ≤ length trace.attached → i + length files ≤ most → AreShort most trace → AreAsOpened trace i files
as_opened trace most i [] lent there within short = tt
as_opened trace most i (file ∷ files) lent there within short = (
  record { within = omega (arith, there); name = lent.0.name; synced = lent.0.synced; unsealed = lent.0.unsealed; most = short i (omega (arith, within)); reads = lent.0.reads },
  as_opened trace most (i + 1) files lent.1 (omega (arith, there)) (omega (arith, within)) short,
)

-- they can be started once they are short enough
pub are_attached : (files : List LinkedFile) (trace : Trace) → AreLent files trace → AreShort (length files) trace → AreAttached files trace
are_attached files trace lent short = record {
  once = lent.once;
  in_use = lent.in_use;
  each = as_opened trace (length files) 0 files lent.each (omega (arith, lent.all)) (omega arith) short;
}

pub can_start : (files : List LinkedFile) (lent now : Disk) → now ≡ lent → IsLentChain files lent → WhereTold lent.told (AreShort (length files)) → CanStart files now
can_start files lent now same chain short =
    let count : now.files ≡ length files = ap (λ (d : Disk). d.files) same ∙ chain.all in
    record {
      few = chain.few;
      there = omega (arith, count);
      line = chain.line;
      once = chain.once;
      served = chain.served;
      told = λ t told. let was = sym (ap (λ (d : Disk). d.told) same) ∙ told in are_attached files t (chain.lent t was) (short t was);
    }

-- what a folder lends tells them
lent_here : (files : List LinkedFile) (old mid : Hosted) (lent : Disk) → NoneTwice (names_of files) → WhereTold old.folder (λ f. BeginsInUse files × AreOpened (contents f) files) → Lends (names_of files) old mid lent
    → WhereTold lent.told (AreLent files)
lent_here files old mid lent once opened lends t told = by_folder old.folder refl
  where
    told_is : lent.told ≡ option_map (attached_trace (names_of files)) old.folder
    told_is = ap (λ (d : Disk). d.told) lends.disk_is

    by_folder : (folder : Option (List Held)) → old.folder ≡ folder → AreLent files t
    by_folder None e = let never : None ≡ Some t = sym (told_is ∙ ap (option_map (attached_trace (names_of files))) e) ∙ told in cc
    by_folder (Some f) e =
        let same : attached_trace (names_of files) f ≡ t = same_Some (attached_trace (names_of files) f) t (sym (told_is ∙ ap (option_map (attached_trace (names_of files))) e) ∙ told) in
        subst (AreLent files) same (are_lent files f once (opened f e).0 (opened f e).1)

linked_lent : (linked : Linked) (old mid : Hosted) (lent : Disk) → IsLinkedChain linked old → Lends (names_of linked.files) old mid lent → IsLentChain linked.files lent
linked_lent linked old mid lent chain lends =
    let once : NoneTwice (names_of linked.files) = last_once linked.retired (names_of linked.files) chain.once in
    record {
      all = ap (λ (d : Disk). d.files) lends.disk_is ∙ length-map linked.files (λ (f : LinkedFile). f.name);
      few = chain.few;
      once = once;
      served = chain.served;
      line = chain.line;
      lent = lent_here linked.files old mid lent once (λ f told. ((chain.chain f told).in_use, (chain.chain f told).opened)) lends;
    }

-- the files of what was linked, as a host lends them
pub lent_chain : (linked : Linked) (files : List LinkedFile) (old mid : Hosted) (lent : Disk) → files ≡ linked.files → IsLinkedChain linked old → Lends (names_of files) old mid lent → IsLentChain files lent
lent_chain linked files old mid lent same chain lends =
    subst (λ fs. IsLentChain fs lent) (sym same) (linked_lent linked old mid lent chain (subst (λ fs. Lends (names_of fs) old mid lent) same lends))
