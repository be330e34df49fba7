-- What making a file of a load leaves of a folder that is told, and what is said of it.
use Rattle.std.proofs.Common.{◌≡◌, ◌<◌, ◌∷◌, ℕ, zero, suc, List, [], length, Option, Some, None, Result, Ok, Err, inl, inr, refl, sym, subst, ◌∙◌}
use Rattle.std.specs.Prelude.{OnOk}
use Rattle.store_model.specs.Disk.{WhereTold}
use Rattle.store_model.specs.Folder.{Held}
use Rattle.command_line.specs.Requests.{File as NewFile}
use Rattle.command_line.specs.Requests as new
use Rattle.guest_model.specs.Calls.{Disk}
use Rattle.link_rules.specs.Chains.{most_files}
use Rattle.link_rules.specs.Folders.{AllIdle}
use Rattle.make_file.specs.Makes.{LeavesOthers, Outside, child_making, dynamic_making}
use Rattle.load_calls.specs.Load.{new_disk, zero_sectors}
use Rattle.grown_chains.specs.Grown.{Grows}
use Rattle.grown_chains.proofs.Growing.{made_children_open, made_disks_open}
use Rattle.command_base.specs.Commands.{IsNewFile, MakeEnded}
use Rattle.command_base.specs.Ends.{Ends}
use Rattle.command_base.proofs.Home.{home_added}
use Rattle.command_base.specs.MakeRuns.{RunsMake}
use Rattle.command_base.specs.Making.{AddsOnly, HasMadeFile, IsParent, LooksAt, ShowsMade}
use Rattle.command_base.specs.Printed.{IsMakeText}
use Rattle.command_base.specs.Worlds.{World}
use Rattle.folder_commands.specs.News.{EndsMaking, HasTypedParent, meaning_of_new}
use Rattle.folder_commands.specs.declared.making.NewFileRefusal.{NewFileRefusal}
use Rattle.printing.specs.Sent.{whole}
use Rattle.printing.specs.declared.status.Status.{Status}
use Rattle.printing.specs.declared.status.Status.TheVariants.{Done, Fault}
use Rattle.load_command.specs.Commands.{load_file, load_name, unheard}
use Rattle.load_command.specs.Growing.{GrowsBy, HasGrown, HasStepped, IsGrown}
use Rattle.load_command.specs.Loads.{by_itself}
use Rattle.load_command.specs.Stops.{StopsSo}
use Rattle.load_command.specs.declared.commands.Command.TheVariants.{Make}
use Rattle.load_command.specs.declared.stop.Stop.TheVariants as stops
use Rattle.load_command.proofs.ServedWell.{done_meant}
use Rattle.load_command.proofs.Sessions.{not_reported}

-- a world with this sink
abbrev pub with_sink : Outside → Option (List ℕ) → ℕ → World
with_sink o written faults = record (unheard o) { written = written; sink_faults = faults }

-- `make` that has ended is a run of it
pub made_runs : (name : List ℕ) (file : NewFile) (before now : Outside) (sunk after : Option (List ℕ)) (old new_ : ℕ) (status : Status) → MakeEnded name file before now sunk after old new_ status
    → RunsMake name file (with_sink before sunk old) (with_sink now after new_) status
made_runs name file before now sunk after old new_ status e = record { printed = e.ended.printed; kept = e.kept; others = e.others; moments = e.moments; unread = refl }

-- what a folder is told of whose files are added to
told_added : (name : List ℕ) (file : NewFile) (before now : Option (List Held)) → AddsOnly name file before now → (f : List Held) → before ≡ Some f → now ≡ None → ⊥
told_added name file before now adds f told none = by_mid adds.mid refl
  where
    by_mid : (mid : Option (List Held)) → adds.mid ≡ mid → ⊥
    by_mid None e = not_looked file adds.looked e
      where
        not_looked : (file : NewFile) → LooksAt file before adds.mid → adds.mid ≡ None → ⊥
        not_looked (new.fixed sectors block) looked e = let never : None ≡ Some f = sym e ∙ looked ∙ told in cc
        not_looked (new.dynamic sectors block) looked e = let never : None ≡ Some f = sym e ∙ looked ∙ told in cc
        not_looked (new.child parent block) looked e = let o = looked f told in let never : None ≡ Some o.0 = sym e ∙ o.1 in cc
    by_mid (Some m) e = by_others (adds.others m e)
      where
        by_others : LeavesOthers name m now → ⊥
        by_others (inl is) = let never : None ≡ Some m = sym none ∙ is in cc
        by_others (inr (file_, is)) = let never : None ≡ Some _ = sym none ∙ is in cc

pub told_made : (name : List ℕ) (file : NewFile) (before now : Option (List Held)) → AddsOnly name file before now → now ≡ None → before ≡ None
told_made name file None now adds none = refl
told_made name file (Some f) now adds none = absurd (told_added name file (Some f) now adds f refl none)

-- how it ends
pub made_ends : (name : List ℕ) (file : NewFile) (before now : Outside) (sunk after : Option (List ℕ)) (old new_ : ℕ) (status : Status) → WhereTold before.host.folder AllIdle → MakeEnded name file before now sunk after old new_ status
    → Ends (Unit {0}) (with_sink before sunk old) (with_sink now after new_) status
made_ends name file before now sunk after old new_ status idle e = record {
  rose = λ fault. elim (e.ended.rose fault) [ inl host ↦ inl host | inr sink ↦ inr (inr sink) ];
  quiet = λ fault. let q = e.ended.quiet fault in (q.0, refl, q.1);
  home = home_added name file before.host.folder now.host.folder idle e.others;
  idle = λ fault none. e.idle fault;
}

-- ---- what it makes of the folder

module _ (file : ℕ) (before now : Outside) (e : MakeEnded (load_name file) (load_file file) before now None None 0 0 Done) where
  shown : ShowsMade (load_name file) (load_file file) before now e.ended.printed.text
  shown = subst (λ m. IsMakeText (load_name file) (load_file file) before now m e.ended.printed.text) (done_meant _ _ _ _ e.ended.printed.meant e.ended.printed.text e.ended.printed.sent) e.ended.printed.said

  grown_by : (names : List (List ℕ)) (disk : Disk) (f : List Held) → before.host.folder ≡ Some f → Grows f now.host.folder (load_name file) disk names → HasGrown file names disk now.host.folder
  grown_by names disk f told g = (
    g.after,
    g.told,
    record { opens = g.has.opens; leads = g.has.leads; idle = e.idle (λ fault. let never : Done ≡ Fault = fault in cc) f told g.after g.told },
  )

-- the first one
grows_first : (before now : Outside) → MakeEnded (load_name 0) (load_file 0) before now None None 0 0 Done → IsNewFile (load_file 0) → WhereTold before.host.folder (λ folder. HasGrown 0 (load_name 0 ∷ []) new_disk now.host.folder)
unfolding zero_sectors
grows_first before now e is_new f told =
    let s = shown 0 before now e in
    let made : HasMadeFile (dynamic_making (load_name 0) s.ids 131072 32) (load_file 0) before now = subst (λ m. HasMadeFile m (load_file 0) before now) s.is s.made in
    grown_by 0 before now e (load_name 0 ∷ []) new_disk f told (made_disks_open (load_name 0) s.ids 131072 32 before now f is_new told made)

-- each other one
grows_next : (file : ℕ) (before now : Outside) → MakeEnded (load_name (suc file)) (load_file (suc file)) before now None None 0 0 Done → IsNewFile (load_file (suc file)) → HasTypedParent (load_file (suc file)) before.host.folder → (names : List (List ℕ)) (disk : Disk) → length names < most_files
    → WhereTold before.host.folder (λ folder. IsGrown file names disk folder → HasGrown (suc file) (load_name (suc file) ∷ names) disk now.host.folder)
grows_next file before now e is_new typed names disk few f told grown =
    let s = shown (suc file) before now e in
    let leaf = s.is.0 in
    let known = s.is.1 in
    let is_parent : IsParent f (load_name file) leaf known = s.is.2 f told in
    let made : HasMadeFile (child_making (load_name (suc file)) s.ids leaf.name leaf.parts known 2) (load_file (suc file)) before now = subst (λ m. HasMadeFile m (load_file (suc file)) before now) s.is.3 s.made in
    grown_by (suc file) before now e (load_name (suc file) ∷ names) disk f told
    (made_children_open (load_name (suc file)) (load_name file) s.ids leaf known 2 before now f disk names is_new told is_parent (typed f told leaf known is_parent) (record { opens = grown.opens; leads = grown.leads }) few made)

-- by the number of the file
grows : (seed file : ℕ) (before now : Outside) → MakeEnded (load_name file) (load_file file) before now None None 0 0 Done → IsNewFile (load_file file) → HasTypedParent (load_file file) before.host.folder
    → GrowsBy seed (Make file) before.host.folder now.host.folder None
grows seed zero before now e is_new typed = grows_first before now e is_new
grows seed (suc file) before now e is_new typed = grows_next file before now e is_new typed

-- ---- the command

pub made_stepped : (seed file : ℕ) (before now : Outside) (len : ℕ) → WhereTold before.host.folder AllIdle → IsNewFile (load_file file) → EndsMaking (load_name file) (load_file file) before now (Ok len) → (before.host.folder ≡ None → now.host.folder ≡ None)
    → HasTypedParent (load_file file) before.host.folder → HasStepped seed (Make file) before now None
made_stepped seed file before now len idle is_new ended untold typed =
    let e : MakeEnded (load_name file) (load_file file) before now None None 0 0 Done = ended None None 0 0 Done (whole refl tt refl) in
    record {
      done = record {
        runs = (made_runs (load_name file) (load_file file) before now None None 0 0 Done e, refl);
        taken = tt;
        tells = record { untold = untold; told = told_made (load_name file) (load_file file) before.host.folder now.host.folder e.others };
        ends = made_ends (load_name file) (load_file file) before now None None 0 0 Done idle e;
      };
      grows = grows seed file before now e is_new typed;
    }

pub unmade_stops : (seed file : ℕ) (before now : Outside) (refusal : NewFileRefusal) → WhereTold before.host.folder AllIdle → EndsMaking (load_name file) (load_file file) before now (Err refusal) → StopsSo seed (Make file) before now (stops.Unmade file refusal)
unmade_stops seed file before now refusal idle ended sunk after old new_ status said =
    let e = ended sunk after old new_ status said in (
      by_itself None (made_runs (load_name file) (load_file file) before now sunk after old new_ status e, refl) (not_reported (meaning_of_new (load_name file) refusal) sunk after old new_ status said),
      made_ends (load_name file) (load_file file) before now sunk after old new_ status idle e,
    )

-- ---- as the code has it

pub made_told : (seed file : ℕ) (name : List ℕ) (new_file : NewFile) (before now : Outside) (result : Result ℕ NewFileRefusal) (len : ℕ) → name ≡ load_name file → new_file ≡ load_file file → result ≡ Ok len → WhereTold before.host.folder AllIdle → IsNewFile new_file
    → EndsMaking name new_file before now result → OnOk result (before.host.folder ≡ None → now.host.folder ≡ None) → OnOk result (HasTypedParent new_file before.host.folder) → HasStepped seed (Make file) before now None
made_told seed file name new_file before now result len named is_file is idle is_new ended untold typed =
    made_stepped seed file before now len idle (subst IsNewFile is_file is_new) (subst (λ n. EndsMaking n (load_file file) before now (Ok len)) named (subst (λ f. EndsMaking name f before now (Ok len)) is_file (subst (EndsMaking name new_file before now) is ended)))
    (subst (λ r. OnOk r (before.host.folder ≡ None → now.host.folder ≡ None)) is untold) (subst (λ f. HasTypedParent f before.host.folder) is_file (subst (λ r. OnOk r (HasTypedParent new_file before.host.folder)) is typed))

pub unmade_told : (seed file : ℕ) (name : List ℕ) (new_file : NewFile) (before now : Outside) (result : Result ℕ NewFileRefusal) (refusal : NewFileRefusal) → name ≡ load_name file → new_file ≡ load_file file → result ≡ Err refusal → WhereTold before.host.folder AllIdle
    → EndsMaking name new_file before now result → StopsSo seed (Make file) before now (stops.Unmade file refusal)
unmade_told seed file name new_file before now result refusal named is_file is idle ended =
    unmade_stops seed file before now refusal idle (subst (λ n. EndsMaking n (load_file file) before now (Err refusal)) named (subst (λ f. EndsMaking name f before now (Err refusal)) is_file (subst (EndsMaking name new_file before now) is ended)))
