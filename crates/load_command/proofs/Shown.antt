-- What is printed of the sum of a load's disk.
use Rattle.std.proofs.Common.{◌≡◌, ℕ, List, Option, None, Some, Result, Ok, Err, String, subst}
use Rattle.std.specs.Prelude.{IfOk, string_bytes}
use Rattle.store_model.specs.Disk.{WhereTold}
use Rattle.store_model.specs.Folder.{Held}
use Rattle.file_open.specs.Causes.{IfCause, Meaning, cause_in, refuses, host_failed, store_failed, no_memory}
use Rattle.command_base.specs.Printed.{RefusesLeaf}
use Rattle.command_base.specs.Causes.{meaning_of_chain, of_chain}
use Rattle.command_base.specs.declared.refusal.ChainRefusal.{ChainRefusal}
use Rattle.command_base.specs.declared.refusal.ChainRefusal.TheVariants as refusals
use Rattle.command_base.proofs.Left.{leaf_refused}
use Rattle.command_base.specs.Refusals.{OfChain, Refusal}
use Rattle.link_rules.specs.Causes.{meaning_of}
use Rattle.link_rules.specs.Chains.{Links}
use Rattle.link_rules.specs.Chains as chains
use Rattle.link_rules.specs.Folders.{contents}
use Rattle.serve_session.specs.declared.tally.Tally.{Tally}
use Rattle.vx_base.specs.declared.NoRoom.{NoRoom}
use Rattle.load_command.specs.Commands.{load_name}
use Rattle.load_command.specs.Stops.{IsLines, IsSummed}
use Rattle.load_command.specs.Sums.{SumsUp, unlinked}

pub lines_shown : {Z : Type 0} (seed : ℕ) (folder : Option (List Held)) (named : List ℕ) (tally : Tally) (sum : ℕ) (text : Result (String Z) NoRoom) → named ≡ load_name 4 → WhereTold folder (λ f. SumsUp f named (Ok sum))
    → IfOk text (λ t. IsLines seed tally sum (string_bytes t)) → IfOk text (λ t. IsSummed seed folder tally (string_bytes t))
lines_shown seed folder named tally sum (Ok text) is sums lines = record { sum = sum; lines = lines; sums = λ f told. subst (λ n. SumsUp f n (Ok sum)) is (sums f told) }
lines_shown seed folder named tally sum (Err e) is sums lines = tt

-- a refusal of it is that of a name that leads to no chain
pub leaf_summed : (folder : Option (List Held)) (named leaf : List ℕ) (x : ChainRefusal) → named ≡ leaf → WhereTold folder (λ f. IfCause (SumsUp f named) (cause_in (meaning_of_chain x))) → (r : Refusal) → cause_in (meaning_of_chain x) ≡ Some r
    → RefusesLeaf folder leaf r
leaf_summed folder named leaf x is answer r cause = by_refusal x answer cause
  where
    links_in : (f : List Held) (q : chains.Refusal) → SumsUp f named (Err (OfChain q)) → Links (contents f) named (Err q)
    links_in f q (unlinked _ links) = links

    links_by : (m : Meaning chains.Refusal) → WhereTold folder (λ f. IfCause (SumsUp f named) (cause_in (of_chain m))) → WhereTold folder (λ f. IfCause (Links (contents f) named) (cause_in m))
    links_by (refuses q) answer f told = links_in f q (answer f told)
    links_by (host_failed fault) answer f told = tt
    links_by (store_failed fault) answer f told = tt
    links_by no_memory answer f told = tt

    by_refusal : (x : ChainRefusal) → WhereTold folder (λ f. IfCause (SumsUp f named) (cause_in (meaning_of_chain x))) → cause_in (meaning_of_chain x) ≡ Some r → RefusesLeaf folder leaf r
    by_refusal (refusals.Unlinked q) answer cause = leaf_refused folder leaf named (meaning_of q) is (links_by (meaning_of q) answer) r cause
    by_refusal (refusals.Host fault) answer cause = let never : None ≡ Some r = cause in cc
    by_refusal (refusals.Store fault) answer cause = let never : None ≡ Some r = cause in cc
    by_refusal refusals.NoRoom answer cause = let never : None ≡ Some r = cause in cc
