-- What was sent to a sink.
use Rattle.std.specs.Prelude.{◌≡◌, ℕ, List, Option, take}
use Rattle.std.specs.Io.KnownBytes.{Appends}
use Rattle.store_model.specs.Cause.{Rose}
use Rattle.printing.specs.declared.status.Status.{Status}
use Rattle.printing.specs.declared.status.Status.TheVariants.{Fault}

-- A text was sent to the sink: whole, and then the status is the one that was meant; or cut by a fault of the sink.
pub data Sent (before after : Option (List ℕ)) (old new : ℕ) (meant : Status) (text : List ℕ) (status : Status) : Type 0 where
  whole : status ≡ meant → Appends before after text → new ≡ old → Sent before after old new meant text status
  cut : status ≡ Fault → (n : ℕ) → Appends before after (take n text) → Rose old new → Sent before after old new meant text status
