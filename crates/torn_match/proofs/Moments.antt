-- What each image without a torn match has, at each moment of changes one after another.
use Rattle.std.proofs.Common.{◌≡◌, ℕ, List}
use Rattle.std.specs.Prelude.{Result, OnOk, IfErr}
use Rattle.store_model.specs.Disk.{Disk, WhereTold, WhereBothTold}
use Rattle.store_model.specs.File.{File, Op}
use Rattle.store_model.specs.Plans.{StopsIn, changed_all}
use Rattle.store_model.specs.Trace.{file_of}
use Rattle.store_model.specs.declared.fault.StoreFault.{StoreFault}
use Rattle.store_model.proofs.Images.{AllImages}
use Rattle.store_model.proofs.Plans.{EachPlanned, HoldsTorn, file_by, file_done, file_stopped}
use Rattle.torn_match.specs.TornMatches.{ChangesUntorn, EachUntorn}
use Rattle.torn_match.proofs.Meant.{failed_leaves_no_more}

untorn_torn : (P : List ℕ → Type 0) → HoldsTorn (EachUntorn P)
untorn_torn P f at meant left as_many all image here whole =
    let done = failed_leaves_no_more f at meant left image as_many here whole in
    all image done.0 done.1

pub untorn_all : (P : List ℕ → Type 0) (f : File) → AllImages P f → EachUntorn P f
untorn_all P f all image here whole = all image here

pub untorn_done : (P : List ℕ → Type 0) (file : ℕ) (ops : List Op) (old new : Disk) → new ≡ changed_all file ops old → WhereTold old.told (λ t. EachPlanned (EachUntorn P) (file_of t file) ops) → WhereBothTold (ChangesUntorn file P) old.told new.told
untorn_done P file ops old new e h = file_done (EachUntorn P) file ops old new e h

pub untorn_stopped : (P : List ℕ → Type 0) (file : ℕ) (new : Disk) (fault : StoreFault) {ops : List Op} {old : Disk} → StopsIn file new fault ops old → WhereTold old.told (λ t. EachPlanned (EachUntorn P) (file_of t file) ops) → WhereBothTold (ChangesUntorn file P) old.told new.told
untorn_stopped P file new fault s h = file_stopped (EachUntorn P) (untorn_torn P) file new fault s h

pub untorn_by : (P : List ℕ → Type 0) (file : ℕ) (ops : List Op) (old new : Disk) (result : Result (Unit {0}) StoreFault) → OnOk result (new ≡ changed_all file ops old) → IfErr result (λ fault. StopsIn file new fault ops old)
    → WhereTold old.told (λ t. EachPlanned (EachUntorn P) (file_of t file) ops) → WhereBothTold (ChangesUntorn file P) old.told new.told
untorn_by P file ops old new result ok err h = file_by (EachUntorn P) (untorn_torn P) file ops old new result ok err h
