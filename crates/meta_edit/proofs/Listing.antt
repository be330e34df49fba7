-- A table of which one entry has another place keeps the rules.
use Rattle.std.proofs.Common.{◌≡◌, ℕ, ◌⊎◌, ◌==◌, ◌&&◌, ◌||◌, not, nat_lt, Bool, true, false, cond, List, [], ◌∷◌, map, None, find, refl, sym, ap, ◌∙◌, inl, inr}
use Rattle.std.proofs.lemmas.Bool.{eq-eqb, eqb-true, or_parts}
use Rattle.std.specs.List.{list_any}
use Rattle.vhdx_format.specs.declared.metadata.MetadataEntry.{MetadataEntry}
use Rattle.vhdx_format.specs.Fields.{megabyte}
use Rattle.vhdx_format.specs.MetadataTables.{are_doubled, clashes, have_common_byte, is_bad_entry, is_outside, is_unknown_required_item}
use Rattle.vhdx_format.proofs.MetadataLaws.{none_next}
use Rattle.meta_edit.proofs.Slots.{placed_at}

-- x is one of a list
unfoldable pub In : {X : Type 0} → X → List X → Type 0
In x [] = ⊥
In x (y ∷ ys) = (x ≡ y) ⊎ In x ys

pub found_none : {X : Type 0} (q : X → Bool) (xs : List X) (x : X) → find q xs ≡ None → In x xs → q x ≡ false
unfolding In
found_none q [] x h i = absurd i
found_none q (y ∷ ys) x h i = go i (none_next q y ys (y ∷ ys) refl h) (found_none q ys x)
  where
    go : (x ≡ y) ⊎ In x ys → (q y ≡ false) × (find q ys ≡ None) → (find q ys ≡ None → In x ys → q x ≡ false) → q x ≡ false
    go (inl e) n rest = ap q e ∙ n.0
    go (inr j) n rest = rest n.1 j

pub none_found : {X : Type 0} (q : X → Bool) (xs : List X) → ((x : X) → In x xs → q x ≡ false) → find q xs ≡ None
unfolding In
none_found q [] h = refl
none_found q (y ∷ ys) h = rw (h y (inl refl)) (none_found q ys (λ x i. h x (inr i)))

any_none : {X : Type 0} (q : X → Bool) (xs : List X) (x : X) → list_any q xs ≡ false → In x xs → q x ≡ false
unfolding In
any_none q [] x h i = absurd i
any_none q (y ∷ ys) x h i = go i (or_parts (q y) (list_any q ys) h) (any_none q ys x)
  where
    go : (x ≡ y) ⊎ In x ys → (q y ≡ false) × (list_any q ys ≡ false) → (list_any q ys ≡ false → In x ys → q x ≡ false) → q x ≡ false
    go (inl e) n rest = ap q e ∙ n.0
    go (inr j) n rest = rest n.1 j

none_any : {X : Type 0} (q : X → Bool) (xs : List X) → ((x : X) → In x xs → q x ≡ false) → list_any q xs ≡ false
unfolding In
none_any q [] h = refl
none_any q (y ∷ ys) h = rw (h y (inl refl)) (none_any q ys (λ x i. h x (inr i)))

pub in_map : {X Y : Type 0} (f : X → Y) (xs : List X) (y : Y) → In y (map f xs) → (x : X) × In x xs × (y ≡ f x)
unfolding In
in_map f [] y i = absurd i
in_map f (x ∷ xs) y i = go i (in_map f xs y)
  where
    go : (y ≡ f x) ⊎ In y (map f xs) → (In y (map f xs) → (z : _) × In z xs × (y ≡ f z)) → (z : _) × In z (x ∷ xs) × (y ≡ f z)
    go (inl e) rest = (x, inl refl, e)
    go (inr j) rest = let r = rest j in (r.0, inr r.1, r.2)

-- an entry that breaks no rule, beside the others
pub record IsGood (n : ℕ) (entries : List MetadataEntry) (e : MetadataEntry) : Type 0 where
  pub short : nat_lt megabyte e.len ≡ false
  pub within : is_outside n e ≡ false
  pub alone : (o : MetadataEntry) → In o entries → clashes e o ≡ false

pub good_of : (n : ℕ) (entries : List MetadataEntry) (e : MetadataEntry) → is_bad_entry n entries e ≡ false → IsGood n entries e
good_of n entries e h =
    let a = or_parts _ _ h in
    let b = or_parts _ _ a.0 in
    record { short = b.0; within = b.1; alone = λ o i. any_none (clashes e) entries o a.1 i }

none_of_three : (a b c : Bool) → a ≡ false → b ≡ false → c ≡ false → (a || b || c) ≡ false
none_of_three a b c e f g = rw (e, f, g) refl

pub bad_of : (n : ℕ) (entries : List MetadataEntry) (e : MetadataEntry) → IsGood n entries e → is_bad_entry n entries e ≡ false
bad_of n entries e g = none_of_three _ _ _ g.short g.within (none_any (clashes e) entries g.alone)

-- a new place of an entry: within the region, behind the table, and apart from all other items
pub record IsFreePlace (n index at len : ℕ) (entries : List MetadataEntry) : Type 0 where
  pub short : nat_lt megabyte len ≡ false
  pub within : (e : MetadataEntry) → is_outside n (record e { at = at; len = len }) ≡ false
  pub apart : (e o : MetadataEntry) → In o entries → (o.index == index) ≡ false
      → (have_common_byte (record e { at = at; len = len }) o ≡ false) × (have_common_byte o (record e { at = at; len = len }) ≡ false)

and_false : (a b : Bool) → b ≡ false → (a && b) ≡ false
and_false true b e = e
and_false false b e = refl

both_not : (a b c : Bool) → (a && (b || c)) ≡ false → (x : Bool) → x ≡ false → (a && (x || c)) ≡ false
both_not false b c h x e = refl
both_not true true c h x e = cc
both_not true false c h x e = rw e h

-- two entries don't clash where one of them gets a free place
placed_alone : (n index at len : ℕ) (entries : List MetadataEntry) → IsFreePlace n index at len entries → (e o : MetadataEntry) → In e entries → In o entries
    → clashes e o ≡ false → clashes (placed_at index at len e) (placed_at index at len o) ≡ false
placed_alone n index at len entries free e o i j h = go (e.index == index) (o.index == index) refl refl
  where
    go : (a b : Bool) → (e.index == index) ≡ a → (o.index == index) ≡ b
        → clashes (cond a (record e { at = at; len = len }) e) (cond b (record o { at = at; len = len }) o) ≡ false
    go false false x y = h
    go true false x y = both_not (not (e.index == o.index)) (have_common_byte e o) (are_doubled e o) h (have_common_byte (record e { at = at; len = len }) o) (free.apart e o j y).0
    go false true x y = both_not (not (e.index == o.index)) (have_common_byte e o) (are_doubled e o) h (have_common_byte e (record o { at = at; len = len })) (free.apart o e i x).1
    go true true x y =
        let same : (e.index == o.index) ≡ true = eq-eqb e.index o.index (eqb-true e.index index x ∙ sym (eqb-true o.index index y)) in
        rw same refl

-- so the table with the entry's new place has no bad entry
pub placed_good : (n index at len : ℕ) (entries : List MetadataEntry) → IsFreePlace n index at len entries → find (is_bad_entry n entries) entries ≡ None
    → find (is_bad_entry n (map (placed_at index at len) entries)) (map (placed_at index at len) entries) ≡ None
placed_good n index at len entries free good =
    none_found (is_bad_entry n (map (placed_at index at len) entries)) (map (placed_at index at len) entries) each
  where
    good_one : (e : MetadataEntry) → In e entries → IsGood n entries e
    good_one e i = good_of n entries e (found_none (is_bad_entry n entries) entries e good i)

    short_one : (e : MetadataEntry) (a : Bool) → nat_lt megabyte e.len ≡ false → nat_lt megabyte (cond a (record e { at = at; len = len }) e).len ≡ false
    short_one e true h = free.short
    short_one e false h = h

    within_one : (e : MetadataEntry) (a : Bool) → is_outside n e ≡ false → is_outside n (cond a (record e { at = at; len = len }) e) ≡ false
    within_one e true h = free.within e
    within_one e false h = h

    placed_one : (e : MetadataEntry) → In e entries → IsGood n (map (placed_at index at len) entries) (placed_at index at len e)
    placed_one e i = record {
      short = short_one e (e.index == index) (good_one e i).short;
      within = within_one e (e.index == index) (good_one e i).within;
      alone = λ o j.
          let r = in_map (placed_at index at len) entries o j in
          ap (clashes (placed_at index at len e)) r.2 ∙ placed_alone n index at len entries free e r.0 i r.1 ((good_one e i).alone r.0 r.1);
    }

    each : (x : MetadataEntry) → In x (map (placed_at index at len) entries) → is_bad_entry n (map (placed_at index at len) entries) x ≡ false
    each x j =
        let r = in_map (placed_at index at len) entries x j in
        ap (is_bad_entry n (map (placed_at index at len) entries)) r.2 ∙ bad_of n (map (placed_at index at len) entries) (placed_at index at len r.0) (placed_one r.0 r.1)

-- nor one that a reader must know and this one doesn't
same_known : (index at len : ℕ) (e : MetadataEntry) (a : Bool) → is_unknown_required_item (cond a (record e { at = at; len = len }) e) ≡ is_unknown_required_item e
same_known index at len e true = refl
same_known index at len e false = refl

pub placed_known : (index at len : ℕ) (entries : List MetadataEntry) → find is_unknown_required_item entries ≡ None → find is_unknown_required_item (map (placed_at index at len) entries) ≡ None
placed_known index at len entries h =
    none_found is_unknown_required_item (map (placed_at index at len) entries)
    (λ x j. let r = in_map (placed_at index at len) entries x j in
    ap is_unknown_required_item r.2 ∙ same_known index at len r.0 (r.0.index == index) ∙ found_none is_unknown_required_item entries r.0 h r.1)
