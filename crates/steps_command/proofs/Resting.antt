-- A folder of which nothing is unsynced: a crash leaves of it what a read gives.
use Rattle.std.proofs.Common.{◌≡◌, ℕ, zero, ◌+◌, Bool, true, false, cond, List, [], ◌∷◌, ◌++◌, map, Option, Some, unwrap_or, refl, sym, ap, subst, ◌∙◌, arith, inl}
use Rattle.std.specs.Prelude.{option_map}
use Rattle.std.specs.Str.{bytes_eq}
use Rattle.store_model.specs.File.{File, Grow, IsFileImage, Op, Seal, Sync, Tear, Write, is_synced, is_synced_after, seen}
use Rattle.store_model.specs.Folder.{Held, IsFolderImage, file_named}
use Rattle.store_model.specs.Places.{IsWrittenAfter}
use Rattle.store_model.specs.Trace.{NamedBytes}
use Rattle.torn_match.specs.TornMatches.{HasNoTornMatch}
use Rattle.guest_model.specs.Calls.{Disk}
use Rattle.guest_model.proofs.HistoryLaws.{same_from_agrees}
use Rattle.chain_model.specs.Files.{IsLinked, OpensTo, at_rest, files_in}
use Rattle.chain_model.specs.Members.{Member, disk_of, Way}
use Rattle.chain_model.proofs.Linking.{all_whole_in_more, more_files_link_alike}
use Rattle.link_rules.specs.Folders.{AllIdle, contents}
use Rattle.link_rules.specs.Laws.{at_rest_all}
use Rattle.link_rules.proofs.Lent.{rest_idle}
use Rattle.steps_command.specs.Crashes.{EachImageOpens, HaveNoTornMatch, IsCleanFolderImage}
use Rattle.command_base.specs.Folders.{LeadsTo, files_of}
use Rattle.steps_command.specs.Sessions.{LeadsWhole}
use Rattle.command_base.proofs.Lent.{seen_image}
use Rattle.steps_command.proofs.Returned.{kept_in_image}

-- nothing was written since the last sync
none_written : (ops : List Op) (i : ℕ) → is_synced_after ops ≡ true → IsWrittenAfter ops i → ⊥
none_written [] i synced h = h
none_written (Write at bytes ∷ older) i synced h = cc
none_written (Tear at meant left ∷ older) i synced h = cc
none_written (Grow len ∷ older) i synced h = cc
none_written (Sync ∷ older) i synced h = h
none_written (Seal ∷ older) i synced h = none_written older i synced h

none_torn : (file : File) (image : List ℕ) → is_synced file ≡ true → HasNoTornMatch file image
none_torn file image synced = record {
  headers = λ copy first last valid touched. absurd (none_written file.ops touched.0 synced touched.3);
  regions = λ copy first last valid touched. absurd (none_written file.ops touched.0 synced touched.3);
  entries = λ header e read holds touched. absurd (none_written file.ops (header.log_at + touched.0) synced touched.3);
}

-- the folder as reads give it
as_seen : List Held → List NamedBytes
as_seen folder = map (λ held. record { name = held.name; bytes = unwrap_or (option_map seen held.file) [] }) folder

seen_left : (folder : List Held) → AllIdle folder → IsFolderImage folder (as_seen folder)
unfolding as_seen
seen_left [] idle = tt
seen_left (held ∷ folder) idle =
    let own = idle zero held (omega arith) in
    let bytes : unwrap_or (option_map seen held.file) [] ≡ seen own.0 = ap (λ o. unwrap_or (option_map seen o) []) own.1 in
    (refl, (own.0, own.1, subst (IsFileImage own.0) (sym bytes) (seen_image own.0.attached own.0.ops own.2)), seen_left folder (rest_idle held folder idle))

seen_whole : (folder : List Held) → AllIdle folder → HaveNoTornMatch folder (as_seen folder)
unfolding as_seen
seen_whole [] idle = tt
seen_whole (held ∷ folder) idle =
    let own = idle zero held (omega arith) in
    ((λ file is. none_torn file _ (subst (λ (o : Option File). unwrap_or (option_map is_synced o) true ≡ true) is (subst (λ (o : Option File). unwrap_or (option_map is_synced o) true ≡ true) (sym own.1) own.2))), seen_whole folder (rest_idle held folder idle))

-- and by names
seen_files : (folder : List Held) → AllIdle folder → (name : List ℕ) → files_in (as_seen folder) name ≡ at_rest_all (contents folder) name
unfolding as_seen
seen_files [] idle name = refl
seen_files (held ∷ folder) idle name = by_name (bytes_eq held.name name) refl (seen_files folder (rest_idle held folder idle) name) where
  by_name : (p : Bool) → bytes_eq held.name name ≡ p → files_in (as_seen folder) name ≡ at_rest_all (contents folder) name → files_in (as_seen (held ∷ folder)) name ≡ at_rest_all (contents (held ∷ folder)) name
  by_name true e further =
      let own = idle zero held (omega arith) in
      ap (λ c. cond c (Some (at_rest (unwrap_or (option_map seen held.file) []))) (files_in (as_seen folder) name)) e
      ∙ ap (λ o. Some (at_rest (unwrap_or (option_map seen o) []))) own.1 ∙ sym (ap (λ o. option_map at_rest (option_map seen o)) own.1)
      ∙ sym (ap (λ c. option_map at_rest (option_map seen (cond c held.file (file_named name folder)))) e)
  by_name false e further =
      ap (λ c. cond c (Some (at_rest (unwrap_or (option_map seen held.file) []))) (files_in (as_seen folder) name)) e ∙ further
      ∙ sym (ap (λ c. option_map at_rest (option_map seen (cond c held.file (file_named name folder)))) e)

-- what each image of it opens to it is opened to
pub opens_at_rest : (folder : List Held) (leaf : Way) (disk : Disk) → AllIdle folder → EachImageOpens leaf (λ s. false) disk folder → OpensTo (files_of folder) leaf.name disk
opens_at_rest folder leaf disk idle opens =
    let o = opens (as_seen folder) (record { left = seen_left folder idle; whole = seen_whole folder idle }) in
    let linked = more_files_link_alike (files_in (as_seen folder)) (files_of folder) leaf.name o.retired o.chain (λ name file had. sym (seen_files folder idle name) ∙ had) o.linked in
    record { retired = o.retired; chain = o.chain; linked = linked; is = same_from_agrees (λ i. refl) o.agrees }

-- and the other way round, outside any sectors
pub rest_opens : (folder : List Held) (leaf : Way) (among : ℕ → Bool) (retired chain : List Member) → AllIdle folder → LeadsWhole (files_of folder) leaf.name leaf.first → IsLinked (files_of folder) leaf.name retired chain
    → EachImageOpens leaf among (disk_of chain) folder
rest_opens folder leaf among retired chain idle whole linked image is = record {
  retired = retired;
  chain = chain;
  by = inl (whole retired chain linked).0;
  linked = more_files_link_alike (files_of folder) (files_in image) leaf.name retired chain (λ name file had. kept_in_image folder folder name file image idle refl is.left is.whole had) linked;
  whole = all_whole_in_more (files_of folder) (files_in image) (λ name file had. kept_in_image folder folder name file image idle refl is.left is.whole had) (retired ++ chain) linked.there (whole retired chain linked).1;
  agrees = record { sectors = refl; same = λ i apart. refl };
}

-- where the name leads in each image of it, there it leads
pub leads_at_rest : (folder : List Held) (leaf : List ℕ) (names : List (List ℕ)) → AllIdle folder → ((image : List NamedBytes) → IsCleanFolderImage folder image → LeadsTo (files_in image) leaf names) → LeadsTo (files_of folder) leaf names
leads_at_rest folder leaf names idle leads =
    let o = leads (as_seen folder) (record { left = seen_left folder idle; whole = seen_whole folder idle }) in
    let linked = more_files_link_alike (files_in (as_seen folder)) (files_of folder) leaf o.retired o.chain (λ name file had. sym (seen_files folder idle name) ∙ had) o.linked in
    record { retired = o.retired; chain = o.chain; linked = linked; are = o.are }
