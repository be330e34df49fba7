-- Blocks whose units are marked, one block more.
use Rattle.std.proofs.Common.{◌≡◌, ℕ, ◌+◌, ◌<◌, ◌≤◌, ◌⊎◌, Bool, true, false, List, [], ◌∷◌, ◌++◌, get_or, sym, ◌∙◌, inl, inr, arith}
use Rattle.std.proofs.lemmas.Bool.{and_from, cases_lt, le-leb, lt-ltb, or_left, or_right}
use Rattle.std.proofs.lemmas.List.Elements.{All-push}
use Rattle.std.proofs.lemmas.List.Quantifiers.{all_pairs_push}
use Rattle.block_table.specs.declared.overlaps.Block.{Block}
use Rattle.block_table.specs.Overlaps.{HasEnd}
use Rattle.unit_bits.specs.Marked.{IsFree, with_block}
use Rattle.table_faults.specs.Keeping.{AreApart, AreMarkedApart, IsMarked}

module _ (count : ℕ) (marks more : ℕ → Bool) (block : Block) (end : HasEnd block) (free : IsFree count marks block.unit block.units)
    (with_it : (t : ℕ) → more t ≡ with_block block.unit block.units marks t) where
  -- what was marked is marked still
  still : (b : Block) → IsMarked marks b → IsMarked more b
  still b m = record { some = m.some; units = λ t from to. with_it t ∙ or_right _ _ (m.units t from to) }

  here : IsMarked more block
  here = record {
    some = end.some;
    units = λ t from to. with_it t ∙ or_left _ _ (and_from _ _ (le-leb block.unit t from) (lt-ltb t (block.unit + block.units) to));
  }

  -- a unit can't be marked and free
  clash : (b : Block) → IsMarked marks b → (t : ℕ) → b.unit ≤ t → t < b.unit + b.units → block.unit ≤ t → t < block.unit + block.units → ⊥
  clash b m t from to here_from here_to = let both : true ≡ false = sym (m.units t from to) ∙ free.unmarked t here_from here_to in cc

  apart_from : (b : Block) → IsMarked marks b → AreApart b block
  apart_from b m common = by_order (cases_lt b.unit block.unit)
    where
      by_order : (b.unit < block.unit) ⊎ (block.unit ≤ b.unit) → ⊥
      by_order (inl l) = clash b m block.unit (omega (arith, l)) common.second (omega arith) (omega (arith, end.some))
      by_order (inr r) = clash b m b.unit (omega arith) (omega (arith, m.some)) r common.first

  pub marked_more : (blocks : List Block) → AreMarkedApart marks blocks → AreMarkedApart more (blocks ++ block ∷ [])
  marked_more blocks h = record {
    apart = all_pairs_push AreApart blocks block h.apart (λ k d l. apart_from (get_or blocks k d) (h.marked k d l));
    marked = All-push (IsMarked more) blocks block (λ k d l. still (get_or blocks k d) (h.marked k d l)) here;
  }
