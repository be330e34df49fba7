-- All that is drawn for a merge.
use Rattle.std.proofs.Common.{◌≡◌, ℕ, List, [], ◌∷◌, ◌++◌, refl, sym, ap, ◌∙◌, arith}
use Rattle.std.specs.Prelude.{Option, Some, None, map, option_map}
use Rattle.std.proofs.lemmas.List.{append-nil, append_assoc, map-append}
use Rattle.std.proofs.lemmas.List.Elements.{All-append, All-cons, All-nil}
use Rattle.vx_base.specs.Fields.{IsGuid}
use Rattle.vhdx_format.specs.Fields.{guid_bytes}
use Rattle.make_file.specs.Identifiers.{Draws}

told_more : (xs ys : List (List ℕ)) (before mid now : Option (List (List ℕ))) → mid ≡ option_map (λ drawn. drawn ++ xs) before → now ≡ option_map (λ drawn. drawn ++ ys) mid
    → now ≡ option_map (λ drawn. drawn ++ (xs ++ ys)) before
told_more xs ys None mid now h k = k ∙ ap (option_map (λ drawn. drawn ++ ys)) h
told_more xs ys (Some o) mid now h k = k ∙ ap (option_map (λ drawn. drawn ++ ys)) h ∙ ap Some (append_assoc o xs ys)

-- some behind others
pub draws_more : (a b : List (List ℕ)) (before mid now : Option (List (List ℕ))) → Draws a before mid → Draws b mid now → Draws (a ++ b) before now
draws_more a b before mid now h k = record {
  each = All-append IsGuid a b h.each k.each;
  told = told_more (map guid_bytes a) (map guid_bytes b) before mid now h.told k.told
      ∙ ap (λ ids. option_map (λ drawn. drawn ++ ids) before) (sym (map-append guid_bytes a b));
}

-- none
pub draws_none : (before : Option (List (List ℕ))) → Draws [] before before
draws_none None = record { each = λ k d l. absurd (omega arith); told = refl }
draws_none (Some o) = record { each = λ k d l. absurd (omega arith); told = ap Some (sym (append-nil o)) }

-- one
pub draws_one : (id : List ℕ) (before now : Option (List (List ℕ))) → IsGuid id → now ≡ option_map (λ drawn. drawn ++ guid_bytes id ∷ []) before → Draws (id ∷ []) before now
draws_one id before now guid told = record { each = All-cons IsGuid id [] guid (All-nil IsGuid); told = told }
