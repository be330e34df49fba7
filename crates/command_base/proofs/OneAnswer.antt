-- A dump finds one thing.
use Rattle.std.proofs.Common.{◌≡◌, ℕ, List, length, take, drop, Result, Ok, Err, ap}
use Rattle.guest_model.specs.Calls.{Disk, bytes_of}
use Rattle.guest_model.specs.Ranges.{range_refusal}
use Rattle.guest_model.specs.declared.refusal.ChainRefusal.{ChainRefusal as CallRefusal}
use Rattle.chain_model.specs.Files.{OpensTo}
use Rattle.chain_model.proofs.Linking.{one_chain}
use Rattle.link_rules.specs.Chains.{Links}
use Rattle.link_rules.specs.Chains as chains
use Rattle.link_rules.specs.Folders.{contents}
use Rattle.link_rules.specs.declared.linked.Linked.{Linked}
use Rattle.link_rules.proofs.EachChain.{chains_are_linked}
use Rattle.link_rules.proofs.OneLinking.{one_linking}
use Rattle.store_model.specs.Folder.{Held}
use Rattle.command_base.specs.Dump.{Finds, read_limit}
use Rattle.command_base.specs.Dump as dump
use Rattle.command_base.specs.Folders.{files_of}
use Rattle.command_base.specs.Refusals.{Refusal, OfCall, OfChain}

pub not_two : (linked : Linked) (refusal : chains.Refusal) → (let r : Result Linked chains.Refusal = Ok linked in r) ≡ Err refusal → ⊥
not_two linked refusal e = cc

same_refusal : (a b : chains.Refusal) → (let r : Result Linked chains.Refusal = Err a in r) ≡ Err b → a ≡ b
same_refusal a b e = cc

module _ (f : List Held) (leaf : List ℕ) where
  never_both : (disk : Disk) (refusal : chains.Refusal) → OpensTo (files_of f) leaf disk → Links (contents f) leaf (Err refusal) → ⊥
  never_both disk refusal opens links =
      let c = chains_are_linked (contents f) leaf opens.retired opens.chain opens.linked in
      not_two c.found refusal (one_linking (contents f) leaf (Ok c.found) (Err refusal) c.links links)

  one_disk : (a b : Disk) → OpensTo (files_of f) leaf a → OpensTo (files_of f) leaf b → a ≡ b
  one_disk a b x y = one_chain.disk (files_of f) leaf a b x y

  one_length : (a b : Disk) → OpensTo (files_of f) leaf a → OpensTo (files_of f) leaf b → length a ≡ length b
  one_length a b x y = ap (λ (d : Disk). length d) (one_disk a b x y)

  one_range : (s n : ℕ) (a b : Disk) → OpensTo (files_of f) leaf a → OpensTo (files_of f) leaf b → range_refusal s n read_limit (length a) ≡ range_refusal s n read_limit (length b)
  one_range s n a b x y = ap (λ k. range_refusal s n read_limit k) (one_length a b x y)

same_range : (a b : CallRefusal) (r q : Result (Unit {0}) CallRefusal) → r ≡ q → r ≡ Err a → q ≡ Err b → a ≡ b
same_range a b r q same x y = cc

not_given : (a : CallRefusal) (r q : Result (Unit {0}) CallRefusal) → r ≡ q → r ≡ Err a → q ≡ Ok tt → ⊥
not_given a r q same x y = cc

pub finds_once : (f : List Held) (leaf : List ℕ) (s n : ℕ) (a b : Result (List ℕ) Refusal) → Finds f leaf s n a → Finds f leaf s n b → a ≡ b
finds_once f leaf s n _ _ (dump.refused r h) (dump.refused q k) = ap (λ x. Err (OfChain x)) (same_refusal r q (one_linking (contents f) leaf (Err r) (Err q) h k))
finds_once f leaf s n _ _ (dump.refused r h) (dump.refused_range d q o k) = absurd (never_both f leaf d r o h)
finds_once f leaf s n _ _ (dump.refused r h) (dump.found d o k) = absurd (never_both f leaf d r o h)
finds_once f leaf s n _ _ (dump.refused_range d q o h) (dump.refused r k) = absurd (never_both f leaf d r o k)
finds_once f leaf s n _ _ (dump.refused_range d q o h) (dump.refused_range e r p k) = ap (λ x. Err (OfCall x)) (same_range q r _ _ (one_range f leaf s n d e o p) h k)
finds_once f leaf s n _ _ (dump.refused_range d q o h) (dump.found e p k) = absurd (not_given q _ _ (one_range f leaf s n d e o p) h k)
finds_once f leaf s n _ _ (dump.found d o h) (dump.refused r k) = absurd (never_both f leaf d r o k)
finds_once f leaf s n _ _ (dump.found d o h) (dump.refused_range e r p k) = absurd (not_given r _ _ (one_range f leaf s n e d p o) k h)
finds_once f leaf s n _ _ (dump.found d o h) (dump.found e p k) = ap (λ x. Ok (bytes_of (take n (drop s x)))) (one_disk f leaf d e o p)
