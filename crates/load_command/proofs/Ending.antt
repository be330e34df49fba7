-- How a load ends, from its first command on.
use Rattle.std.proofs.Common.{◌≡◌, ◌≢◌, ◌∷◌, ℕ, List, [], Option, Some, None, inl, inr, refl, sym, subst, ◌∙◌, arith}
use Rattle.store_model.specs.Cause.{Rose}
use Rattle.store_model.specs.Disk.{WhereTold}
use Rattle.store_model.specs.Folder.{Held}
use Rattle.link_rules.specs.Folders.{AllIdle, contents}
use Rattle.link_rules.specs.Touches.{IsOnWay, TouchesSafely}
use Rattle.make_file.specs.Makes.{Outside}
use Rattle.serve_session.specs.declared.tally.Tally.{Tally}
use Rattle.command_base.specs.Commands.{Ended}
use Rattle.command_base.specs.Ends.{Ends}
use Rattle.command_base.specs.Folders.{OnlyFollows}
use Rattle.command_base.specs.Printed.{IsText, RefusesLeaf, ShowsFault}
use Rattle.command_base.specs.Worlds.{World, world}
use Rattle.command_base.proofs.Home.{home_followed}
use Rattle.printing.specs.declared.status.Status.{Status}
use Rattle.printing.specs.declared.status.Status.TheVariants.{Done, Fault, Findings, NoMemory, Refused, Usage}
use Rattle.load_command.specs.Commands.{HasDone, HaveDone, load_commands, load_name, unheard}
use Rattle.load_command.specs.Growing.{HasRun, HaveStepped}
use Rattle.load_command.specs.Loads.{RunsLoad, ShowsLoad, stopped, summed}
use Rattle.load_command.specs.Stops.{IsSummed, SaysStop, StopsWithin}
use Rattle.load_command.specs.declared.commands.Command.{Command}
use Rattle.load_command.specs.declared.stop.Stop.{Stop}
use Rattle.load_command.proofs.Loaded.{Laws, have_run, lines_exact, loaded}
use Rattle.load_command.specs.declared.commands.Command.TheVariants.{Run}
use Rattle.load_command.proofs.Stepping.{have_done, run_heard, still_idle}

-- a run that writes to this sink, and reads nothing
abbrev at : Outside → Option (List ℕ) → ℕ → World
at o written faults = record (unheard o) { written = written; sink_faults = faults }

no_rise : Rose 0 0 → ⊥
no_rise rose = absurd (omega (arith, rose.risen))

-- what no source is read for is so of any
anywhere : (before now : Outside) (sunk after : Option (List ℕ)) (old new_ : ℕ) (status : Status) → Ends (Unit {0}) (at before sunk old) (at now after new_) status → (left : Option (List ℕ)) (rises : ℕ)
    → Ends (Unit {0}) (world before.host before.drawn left rises sunk old) (world now.host now.drawn left rises after new_) status
anywhere before now sunk after old new_ status e left rises = record {
  rose = λ fault. elim (e.rose fault) [ inl host ↦ inl host | inr other ↦ elim other [ inl source ↦ absurd (no_rise source) | inr sink ↦ inr (inr sink) ] ];
  quiet = λ fault. let q = e.quiet fault in (q.0, refl, q.2);
  home = e.home;
  idle = e.idle;
}

-- ---- behind commands that were done

-- where the folder was told it is
told_on : (seed : ℕ) (command : Command) (before mid : Outside) (heard : Option Tally) → HasDone seed command before mid heard → (f : List Held) → before.host.folder ≡ Some f → (m : List Held) × (mid.host.folder ≡ Some m)
told_on seed command before mid heard done f told = by_folder mid.host.folder refl
  where
    by_folder : (folder : Option (List Held)) → mid.host.folder ≡ folder → (m : List Held) × (mid.host.folder ≡ Some m)
    by_folder None none = absurd (let never : None ≡ Some f = sym (done.tells.told none) ∙ told in cc)
    by_folder (Some m) is = (m, is)

quiet_on : (seed : ℕ) (command : Command) (before mid : Outside) (heard : Option Tally) → HasDone seed command before mid heard → mid.host.faults ≡ before.host.faults
quiet_on seed command before mid heard done = (done.ends.quiet (λ e. let never : Done ≡ Fault = e in cc)).0

ends_then : (seed : ℕ) (command : Command) (before mid now : Outside) (heard : Option Tally) (sunk after : Option (List ℕ)) (old new_ : ℕ) (status : Status) → HasDone seed command before mid heard → Ends (Unit {0}) (at mid sunk old) (at now after new_) status
    → Ends (Unit {0}) (at before sunk old) (at now after new_) status
ends_then seed command before mid now heard sunk after old new_ status done e = record {
  rose = λ fault. elim (e.rose fault) [ inl host ↦ inl (subst (λ n. Rose n now.host.faults) (quiet_on seed command before mid heard done) host) | inr other ↦ inr other ];
  quiet = λ fault. let q = e.quiet fault in (q.0 ∙ quiet_on seed command before mid heard done, q.1, q.2);
  home = λ f told. let m = told_on seed command before mid heard done f told in e.home m.0 m.1;
  idle = λ fault none f told. let m = told_on seed command before mid heard done f told in e.idle fault none m.0 m.1;
}

pub ends_behind : (seed : ℕ) (commands : List Command) (before mid now : Outside) (first last : Option Tally) (sunk after : Option (List ℕ)) (old new_ : ℕ) (status : Status) → HaveDone seed commands before first mid last
    → Ends (Unit {0}) (at mid sunk old) (at now after new_) status → Ends (Unit {0}) (at before sunk old) (at now after new_) status
ends_behind seed [] before mid now first last sunk after old new_ status (same, also) e = subst (λ (o : Outside). Ends (Unit {0}) (at o sunk old) (at now after new_) status) same e
ends_behind seed (c ∷ commands) before mid now first last sunk after old new_ status (o, h, done, rest) e =
    ends_then seed c before o now h sunk after old new_ status done (ends_behind seed commands o mid now h last sunk after old new_ status rest e)

pub idle_behind_all : (seed : ℕ) (commands : List Command) (before mid : Outside) (first last : Option Tally) → HaveDone seed commands before first mid last → WhereTold before.host.folder AllIdle → WhereTold mid.host.folder AllIdle
idle_behind_all seed [] before mid first last (same, also) idle = subst (λ (o : Outside). WhereTold o.host.folder AllIdle) (sym same) idle
idle_behind_all seed (c ∷ commands) before mid first last (o, h, done, rest) idle = idle_behind_all seed commands o mid h last rest (still_idle seed c before o h done idle)

-- ---- one that stops

module _ (seed : ℕ) (before now : Outside) (stop : Stop) (within : StopsWithin seed load_commands before now stop) (left : Option (List ℕ)) (rises : ℕ) (sunk after : Option (List ℕ)) (old new_ : ℕ) (status : Status) (said : SaysStop stop sunk after old new_ status) where
  pub stopped_runs : RunsLoad seed (world before.host before.drawn left rises sunk old) (world now.host now.drawn left rises after new_) status
  stopped_runs =
      stopped (record {
        done = within.done;
        command = within.command;
        left = within.left;
        split = within.split;
        mid = within.mid;
        last = within.last;
        have_done = have_done seed within.done before within.mid None within.last within.have_done;
        stops = (within.stops sunk after old new_ status said).0;
      }) refl

  pub stopped_ends : Ends (Unit {0}) (world before.host before.drawn left rises sunk old) (world now.host now.drawn left rises after new_) status
  stopped_ends =
      anywhere before now sunk after old new_ status
      (ends_behind seed within.done before within.mid now None within.last sunk after old new_ status (have_done seed within.done before within.mid None within.last within.have_done) (within.stops sunk after old new_ status said).1) left rises

-- ---- one that is summed up

module _ (laws : Laws) (seed : ℕ) (before mid now : Outside) (tally : Tally) (idle : WhereTold before.host.folder AllIdle) (have : HaveStepped seed load_commands before None mid (Some tally)) (undrawn : now.drawn ≡ mid.drawn) (left : Option (List ℕ)) (rises : ℕ) (sunk after : Option (List ℕ)) (old new_ : ℕ) (status : Status)
    (ended : Ended (IsText (IsSummed seed mid.host.folder tally) (RefusesLeaf mid.host.folder (load_name 4)) (ShowsFault mid.host now.host)) mid.host.faults now.host.faults sunk after old new_ status) (follows : OnlyFollows (load_name 4) mid.host.folder now.host.folder) where
  done_all : HaveDone seed load_commands before None mid (Some tally)
  done_all = have_done seed load_commands before mid None (Some tally) have

  ran : (f : List Held) → before.host.folder ≡ Some f → HasRun seed mid.host.folder (Some tally)
  ran f told = have_run seed before mid (Some tally) have f told

  -- the text that was meant, if it is the lines
  as_load : (meant : Status) (text : List ℕ) → IsText (IsSummed seed mid.host.folder tally) (RefusesLeaf mid.host.folder (load_name 4)) (ShowsFault mid.host now.host) meant text
      → IsText (ShowsLoad seed before.host.folder mid.host.folder tally) (RefusesLeaf mid.host.folder (load_name 4)) (ShowsFault mid.host now.host) meant text
  as_load Done text s = record {
    counts = s.lines.counts;
    counted = s.lines.counted;
    sum = s.sum;
    text_is = s.lines.text_is;
    exactly = λ f told. s.lines.text_is ∙ lines_exact laws seed mid.host.folder tally (ran f told) s.lines.counts s.lines.counted s.sum s.sums;
    loaded = λ f told. loaded laws seed mid.host.folder tally (ran f told);
  }
  as_load Refused text s = s
  as_load Usage text s = s
  as_load Fault text s = s
  as_load NoMemory text s = s
  as_load Findings text s = s

  pub summed_runs : TouchesSafely (λ folder. IsOnWay (contents folder) (load_name 4)) mid.host now.host → RunsLoad seed (world before.host before.drawn left rises sunk old) (world now.host now.drawn left rises after new_) status
  summed_runs moments =
      summed (record {
        mid = mid;
        tally = tally;
        have_done = done_all;
        printed = record { meant = ended.printed.meant; text = ended.printed.text; said = as_load ended.printed.meant ended.printed.text ended.printed.said; sent = ended.printed.sent };
        followed = follows;
        moments = moments;
        undrawn = undrawn;
      }) refl

  pub summed_ends : (status ≢ Fault → WhereTold mid.host.folder (λ f. WhereTold now.host.folder AllIdle)) → Ends (Unit {0}) (world before.host before.drawn left rises sunk old) (world now.host now.drawn left rises after new_) status
  summed_ends still =
      anywhere before now sunk after old new_ status
      (ends_behind seed load_commands before mid now None (Some tally) sunk after old new_ status done_all
      (record {
        rose = λ fault. elim (ended.rose fault) [ inl host ↦ inl host | inr sink ↦ inr (inr sink) ];
        quiet = λ fault. let q = ended.quiet fault in (q.0, refl, q.1);
        home = home_followed (load_name 4) mid.host.folder now.host.folder (idle_behind_all seed load_commands before mid None (Some tally) done_all idle) follows;
        idle = λ fault none. still fault;
      })) left rises

-- ---- as the code has it

pub as_have : (seed : ℕ) (commands : List Command) (before mid : Outside) (last : Option Tally) (tally : Tally) → commands ≡ load_commands → last ≡ Some tally → HaveStepped seed commands before None mid last → HaveStepped seed load_commands before None mid (Some tally)
as_have seed commands before mid last tally are is h = subst (λ cs. HaveStepped seed cs before None mid (Some tally)) are (subst (HaveStepped seed commands before None mid) is h)

pub as_within : (seed : ℕ) (commands : List Command) (before now : Outside) (stop : Stop) → commands ≡ load_commands → StopsWithin seed commands before now stop → StopsWithin seed load_commands before now stop
as_within seed commands before now stop are h = subst (λ cs. StopsWithin seed cs before now stop) are h

-- the guests were heard
pub none_silent : (seed : ℕ) (commands : List Command) (before mid : Outside) (last : Option Tally) → commands ≡ load_commands → last ≡ None → HaveStepped seed commands before None mid last → ⊥
none_silent seed commands before mid last are is h = by_last (subst (λ cs. HaveStepped seed cs before None mid None) are (subst (HaveStepped seed commands before None mid) is h))
  where
    by_last : HaveStepped seed load_commands before None mid None → ⊥
    by_last (m1, h1, s1, (m2, h2, s2, (m3, h3, s3, (m4, h4, s4, (m5, h5, s5, (m6, h6, s6, (m7, h7, s7, (m8, h8, s8, (m9, h9, s9, (m10, h10, s10, (same, heard))))))))))) = run_heard seed m9 m10 (subst (HasDone seed Run m9 m10) (sym heard) s10.done)

pub idle_mid : (seed : ℕ) (before mid : Outside) (tally : Tally) → HaveStepped seed load_commands before None mid (Some tally) → WhereTold before.host.folder AllIdle → WhereTold mid.host.folder AllIdle
idle_mid seed before mid tally h idle = idle_behind_all seed load_commands before mid None (Some tally) (have_done seed load_commands before mid None (Some tally) h) idle
