-- What a session of a load leaves of a folder that is told.
use Rattle.std.proofs.Common.{◌≡◌, ℕ, Bool, false, List, length, Option, Some, None, inl, inr, refl, sym, ap, subst, ◌∙◌}
use Rattle.store_model.specs.Disk.{WhereTold}
use Rattle.store_model.specs.Folder.{Held}
use Rattle.store_model.specs.Trace.{NamedBytes}
use Rattle.make_file.specs.Makes.{Outside}
use Rattle.guest_model.specs.Calls.{Disk}
use Rattle.guest_model.specs.History.{replay}
use Rattle.chain_model.specs.Files.{OpensTo, OpensWithin, files_in}
use Rattle.chain_model.specs.Members.{LeadsBy, Member}
use Rattle.chain_model.specs.Members as model
use Rattle.chain_model.proofs.Linking.{one_chain}
use Rattle.grown_chains.proofs.Added.{links_lead, one_way}
use Rattle.link_rules.specs.Chains.{names_of}
use Rattle.link_rules.specs.Folders.{AllIdle}
use Rattle.link_rules.specs.declared.linked.Linked.{Linked}
use Rattle.script.specs.declared.form.Line.{Line}
use Rattle.load_calls.specs.Load.{IsHistoryOf, preparing_history, preparing_lines, with_writes}
use Rattle.load_served.specs.Complete.{AreGuests}
use Rattle.load_served.proofs.Complete.{answers_are_histories, loads_have_guests}
use Rattle.serve_session.specs.Served.{guest_count}
use Rattle.serve_session.specs.declared.tally.Tally.{Tally}
use Rattle.command_base.specs.Ends.{Ends}
use Rattle.command_base.specs.Folders.{LeadsTo, files_of}
use Rattle.printing.specs.declared.status.Status.TheVariants.{Done, Fault, NoMemory}
use Rattle.serve_command.specs.Guests.{TellsAlike}
use Rattle.serve_command.specs.Serves.{HasTally, ServesLines, ServesOver, lines_served, lines_unopened}
use Rattle.steps_command.specs.Crashes.{EachImageOpens}
use Rattle.steps_command.specs.Steps.{way_by}
use Rattle.steps_command.proofs.Resting.{leads_at_rest}
use Rattle.load_command.specs.Commands.{load_name, unheard}
use Rattle.load_command.specs.Growing.{HasGrown, IsGrown}
use Rattle.load_command.specs.Stops.{HasServed}
use Rattle.load_command.proofs.ServedWell.{answered, count, keeps, served_out, unopened_undone}

-- ---- where a name leads

-- where a session without a merge is at rest, the name leads to its files
leads_first : (leaf : List ℕ) (linked : Linked) (among : ℕ → Bool) (disk : Disk) (folder : List Held) → AllIdle folder → EachImageOpens (way_by leaf linked None) among disk folder → LeadsTo (files_of folder) leaf (names_of linked.files)
leads_first leaf linked among disk folder idle opens = leads_at_rest folder leaf (names_of linked.files) idle (λ image clean. by_image image (opens image clean))
  where
    first : (names : List (List ℕ)) → LeadsBy (way_by leaf linked None) names → names ≡ names_of linked.files
    first names (inl is) = is
    first names (inr (name, drops, is)) = absurd (let never : ◌≡◌ {A = Option (List ℕ)} None (Some name) = drops in cc)

    by_image : (image : List NamedBytes) → OpensWithin (files_in image) (way_by leaf linked None) among disk → LeadsTo (files_in image) leaf (names_of linked.files)
    by_image image o = record { retired = o.retired; chain = o.chain; linked = o.linked; are = first (model.names_of o.chain) o.by }

-- ---- what is told

pub told_behind : (before now : Option (List Held)) → TellsAlike before now → (f : List Held) → before ≡ Some f → (g : List Held) × (now ≡ Some g)
told_behind before None tells f told = absurd (let never : None ≡ Some f = sym (tells.told refl) ∙ told in cc)
told_behind before (Some g) tells f told = (g, refl)

idle_behind : (before now : Outside) → Ends (Unit {0}) (unheard before) (unheard now) Done → (f g : List Held) → before.host.folder ≡ Some f → now.host.folder ≡ Some g → AllIdle g
idle_behind before now ends f g told also = ends.idle (λ e. let never : Done ≡ Fault = e in cc) (λ e. absurd (let never : Done ≡ NoMemory = e in cc)) f told g also

-- ---- a session without a merge

module _ (leaf : List ℕ) (lines : List Line) (before now : Outside) (tally : Tally) (h : HasServed leaf None lines before now tally) (f : List Held) (told : before.host.folder ≡ Some f) where
  after : (g : List Held) × (now.host.folder ≡ Some g)
  after = told_behind before.host.folder now.host.folder h.tells f told

  idle_after : AllIdle after.0
  idle_after = idle_behind before now h.ends f after.0 told after.1

  module _ (s : ServesOver leaf None (unheard before) (unheard now) Done) (is : s.begun.lines ≡ lines) (heard : HasTally s.service (Some tally)) where
    -- the history of the lines
    of_lines : (n : ℕ) → guest_count lines ≡ n → AreGuests n lines → IsHistoryOf lines s.service.history
    of_lines n n_is own =
        let kept = keeps leaf None (unheard before) (unheard now) s f told in
        let guests : length s.service.guests ≡ n = count leaf None (unheard before) (unheard now) s ∙ ap guest_count is ∙ n_is in
        subst (λ ls. IsHistoryOf ls s.service.history) is
        (answers_are_histories false _ s.begun.lines s.service.guests s.service.history s.service.ended s.service.broken kept.told_so
        (subst (λ k. AreGuests k s.begun.lines) (sym guests) (subst (AreGuests n) (sym is) own)) (answered leaf None (unheard before) (unheard now) s (Some tally) heard h.taken))

    -- the disk that it was begun on
    same_disk : (disk : Disk) → OpensTo (files_of f) leaf disk → s.begun.disk ≡ disk
    same_disk disk opens = one_chain.disk (files_of f) leaf s.begun.disk disk (s.begun.opens f told) opens

    opens_after : (disk : Disk) → OpensTo (files_of f) leaf disk → OpensTo (files_of after.0) leaf (replay 512 disk s.service.history)
    opens_after disk opens =
        let kept = keeps leaf None (unheard before) (unheard now) s f told in
        subst (λ d. OpensTo (files_of after.0) leaf (replay 512 d s.service.history)) (same_disk disk opens) (kept.at_rest (served_out leaf None (unheard before) (unheard now) s) after.0 after.1)

    leads_after : (names : List (List ℕ)) → LeadsTo (files_of f) leaf names → LeadsTo (files_of after.0) leaf names
    leads_after names leads =
        let kept = keeps leaf None (unheard before) (unheard now) s f told in
        subst (LeadsTo (files_of after.0) leaf) (one_way (files_of f) leaf (names_of s.begun.linked.files) names (links_lead f leaf s.begun.linked (s.begun.links f told)) leads)
        (leads_first leaf s.begun.linked _ _ after.0 idle_after (kept.last after.0 after.1))

-- the writes to a file make of it what they are to
pub write_grows : (seed file : ℕ) (before now : Outside) (tally : Tally) → HasServed (load_name file) None (preparing_lines seed file) before now tally → (names : List (List ℕ)) (disk : Disk)
    → WhereTold before.host.folder (λ folder. IsGrown file names disk folder → HasGrown file names (with_writes seed file disk) now.host.folder)
write_grows seed file before now tally h names disk f told grown = by_lines h.serves
  where
    by_lines : ServesLines (load_name file) None (preparing_lines seed file) (unheard before) (unheard now) Done (Some tally) → HasGrown file names (with_writes seed file disk) now.host.folder
    by_lines (lines_unopened u none) = absurd (unopened_undone (load_name file) (unheard before) (unheard now) u)
    by_lines (lines_served s is heard) =
        let g = after (load_name file) (preparing_lines seed file) before now tally h f told in
        let guests = loads_have_guests seed in
        let own = of_lines (load_name file) (preparing_lines seed file) before now tally h f told s is heard 1 (guests.preparing file) (guests.preparing_own file) in
        let same : s.service.history ≡ preparing_history seed file = guests.prepared file s.service.history own in (
          g.0,
          g.1,
          record {
            opens = subst (λ x. OpensTo (files_of g.0) (load_name file) (replay 512 disk x)) same (opens_after (load_name file) (preparing_lines seed file) before now tally h f told s is heard disk grown.opens);
            leads = leads_after (load_name file) (preparing_lines seed file) before now tally h f told s is heard names grown.leads;
            idle = idle_after (load_name file) (preparing_lines seed file) before now tally h f told;
          },
        )
