-- A table with one entry more, and its items: what they say is as before, but for that item.
use Rattle.std.proofs.Common.{◌≡◌, ℕ, ◌⊎◌, ◌&&◌, ◌||◌, not, nat_lt, Bool, true, false, cond, List, [], ◌∷◌, ◌++◌, Some, None, find, is_none, refl, sym, ap, ◌∙◌, inl, inr}
use Rattle.std.specs.Prelude.{Ok}
use Rattle.std.specs.Bool.{beq}
use Rattle.std.specs.Str.{bytes_eq}
use Rattle.std.proofs.lemmas.Bool.{eq-eqb}
use Rattle.std.proofs.lemmas.Slice.Eq.{bytes_eq-Decides}
use Rattle.vhdx_format.specs.declared.TheConstants.{FILE_PARAMETERS, DISK_SIZE, DISK_ID, LOGICAL_SECTOR, PHYSICAL_SECTOR, PARENT_LOCATOR, RETIRED}
use Rattle.vhdx_format.specs.declared.metadata.Item.{Item}
use Rattle.vhdx_format.specs.declared.metadata.Metadata.{Metadata}
use Rattle.vhdx_format.specs.declared.metadata.MetadataEntry.{MetadataEntry}
use Rattle.vhdx_format.specs.Fields.{has_flag, megabyte}
use Rattle.vhdx_format.specs.Rules.{MissingItem, BadItem}
use Rattle.vhdx_format.specs.MetadataTables.{are_doubled, clashes, have_common_byte, has_parent, is_bad_entry, is_bad_item, is_known_item, is_of, is_outside, is_unknown_required_item, is_user, item_of, item_value, known_items, metadata_of, missing_item, read_items, retired_in, value_of}
use Rattle.vhdx_format.proofs.MetadataLaws.{none_next}
use Rattle.metadata_table.proofs.Places.{known-next, unknown-next, known-none}
use Rattle.meta_edit.specs.declared.ItemKind.{ItemKind}
use Rattle.meta_edit.specs.declared.ItemKind.TheVariants.{Locator, Retired}
use Rattle.meta_edit.specs.Edits.{id_of, flags_of, is_of_kind}
use Rattle.meta_edit.proofs.Slots.{made}
use Rattle.meta_edit.proofs.MoreSlots.{added}
use Rattle.meta_edit.proofs.Listing.{In, found_none, none_found, good_of, bad_of}
use Rattle.meta_edit.proofs.ItemLists.{SameNeeded, needed_by, parent_kept, same_bad, value_here, value_next, same_ok}
use Rattle.meta_edit.proofs.Sound.{unless_some_ok}
use Rattle.meta_edit.proofs.Edited.{kind_known, kind_id}

-- ---- lists with one more

in_more : {X : Type 0} (xs : List X) (y x : X) → In x (xs ++ y ∷ []) → In x xs ⊎ (x ≡ y)
unfolding In
in_more [] y x (inl e) = inr e
in_more [] y x (inr i) = absurd i
in_more (z ∷ xs) y x (inl e) = inl (inl e)
in_more (z ∷ xs) y x (inr i) = go (in_more xs y x i)
  where
    go : In x xs ⊎ (x ≡ y) → ((x ≡ z) ⊎ In x xs) ⊎ (x ≡ y)
    go (inl j) = inl (inr j)
    go (inr e) = inr e

none_more : {X : Type 0} (q : X → Bool) (xs : List X) (y : X) → ((x : X) → In x xs → q x ≡ false) → q y ≡ false → find q (xs ++ y ∷ []) ≡ None
none_more q xs y h g = none_found q (xs ++ y ∷ []) (λ x i. go x (in_more xs y x i))
  where
    go : (x : _) → In x xs ⊎ (x ≡ y) → q x ≡ false
    go x (inl i) = h x i
    go x (inr e) = ap q e ∙ g

-- ---- the rules of a table

-- an entry that can stand beside all others
pub record StandsBeside (n : ℕ) (entries : List MetadataEntry) (one : MetadataEntry) : Type 0 where
  pub short : nat_lt megabyte one.len ≡ false
  pub within : is_outside n one ≡ false
  pub before : (o : MetadataEntry) → In o entries → clashes o one ≡ false
  pub behind : (o : MetadataEntry) → In o entries → clashes one o ≡ false

clashes_not : (e : MetadataEntry) → clashes e e ≡ false
clashes_not e = ap (λ (b : Bool). not b && (have_common_byte e e || are_doubled e e)) (eq-eqb e.index e.index refl)

pub more_good : (n : ℕ) (es : List MetadataEntry) (one : MetadataEntry) → find (is_bad_entry n es) es ≡ None → StandsBeside n es one
    → find (is_bad_entry n (es ++ one ∷ [])) (es ++ one ∷ []) ≡ None
more_good n es one good h = none_more (is_bad_entry n (es ++ one ∷ [])) es one old new
  where
    old : (e : MetadataEntry) → In e es → is_bad_entry n (es ++ one ∷ []) e ≡ false
    old e i =
        let g = good_of n es e (found_none (is_bad_entry n es) es e good i) in
        bad_of n (es ++ one ∷ []) e (record { short = g.short; within = g.within; alone = λ o j. beside o (in_more es one o j) })
      where
        beside : (o : MetadataEntry) → In o es ⊎ (o ≡ one) → clashes e o ≡ false
        beside o (inl j) = (good_of n es e (found_none (is_bad_entry n es) es e good i)).alone o j
        beside o (inr s) = ap (clashes e) s ∙ h.before e i

    new : is_bad_entry n (es ++ one ∷ []) one ≡ false
    new = bad_of n (es ++ one ∷ []) one (record { short = h.short; within = h.within; alone = λ o j. beside o (in_more es one o j) })
      where
        beside : (o : MetadataEntry) → In o es ⊎ (o ≡ one) → clashes one o ≡ false
        beside o (inl j) = h.behind o j
        beside o (inr s) = ap (clashes one) s ∙ clashes_not one

-- the new entry is of a known item
is_known : (kind : ItemKind) (n at len : ℕ) → is_known_item (added kind n at len) ≡ true
is_known Locator n at len = refl
is_known Retired n at len = refl

pub more_known : (kind : ItemKind) (n at len : ℕ) (es : List MetadataEntry) → find is_unknown_required_item es ≡ None → find is_unknown_required_item (es ++ added kind n at len ∷ []) ≡ None
more_known kind n at len es h =
    none_more is_unknown_required_item es (added kind n at len) (λ x i. found_none is_unknown_required_item es x h i)
    (ap (λ (b : Bool). not b && has_flag (flags_of kind) 4) (is_known kind n at len))

-- no entry is doubled by one of a kind that isn't there
not_both : (s u w : Bool) → (s && not u) ≡ false → w ≡ false → ((s && beq u w) ≡ false) × ((s && beq w u) ≡ false)
not_both false u w h e = (refl, refl)
not_both true true false h e = (refl, refl)
not_both true false false h e = cc
not_both true u true h e = cc

not_both_user : (s u w : Bool) → (s && u) ≡ false → w ≡ true → ((s && beq u w) ≡ false) × ((s && beq w u) ≡ false)
not_both_user false u w h e = (refl, refl)
not_both_user true false true h e = (refl, refl)
not_both_user true true true h e = cc
not_both_user true u false h e = cc

eq_swapped : (a b : List ℕ) → bytes_eq a b ≡ bytes_eq b a
eq_swapped a b = go (bytes_eq a b) (bytes_eq b a) refl refl
  where
    go : (x y : Bool) → bytes_eq a b ≡ x → bytes_eq b a ≡ y → x ≡ y
    go true true e f = refl
    go false false e f = refl
    go true false e f = sym ((bytes_eq-Decides b a).1 (sym ((bytes_eq-Decides a b).0 e))) ∙ f
    go false true e f = sym e ∙ (bytes_eq-Decides a b).1 (sym ((bytes_eq-Decides b a).0 f))

pub not_doubled : (kind : ItemKind) (n at len : ℕ) (e : MetadataEntry) → is_of_kind kind e ≡ false → (are_doubled e (added kind n at len) ≡ false) × (are_doubled (added kind n at len) e ≡ false)
not_doubled Locator n at len e h =
    let two = not_both (bytes_eq e.id PARENT_LOCATOR) (is_user e) (has_flag 4 1) h refl in
    (two.0, ap (λ (b : Bool). b && beq (has_flag 4 1) (is_user e)) (eq_swapped PARENT_LOCATOR e.id) ∙ two.1)
not_doubled Retired n at len e h =
    let two = not_both_user (bytes_eq e.id RETIRED) (is_user e) (has_flag 1 1) h refl in
    (two.0, ap (λ (b : Bool). b && beq (has_flag 1 1) (is_user e)) (eq_swapped RETIRED e.id) ∙ two.1)

-- ---- the items

pub known_more : (kind : ItemKind) (r new : List ℕ) (n at len : ℕ) (es : List MetadataEntry) → ((e : MetadataEntry) → In e es → value_of new e ≡ value_of r e)
    → known_items new (es ++ added kind n at len ∷ []) ≡ known_items r es ++ record { id = id_of kind; value = value_of new (added kind n at len) } ∷ []
unfolding In
known_more kind r new n at len [] h =
    known-next new (added kind n at len) [] (is_known kind n at len) ∙ ap (λ (xs : List Item). item_of new (added kind n at len) ∷ xs) (known-none new)
    ∙ ap (λ (xs : List Item). xs ++ item_of new (added kind n at len) ∷ []) (sym (known-none r))
known_more kind r new n at len (x ∷ xs) h = go (is_known_item x) refl (known_more kind r new n at len xs (λ e i. h e (inr i)))
  where
    last : List Item
    last = record { id = id_of kind; value = value_of new (added kind n at len) } ∷ []

    go : (b : Bool) → is_known_item x ≡ b → known_items new (xs ++ added kind n at len ∷ []) ≡ known_items r xs ++ last
        → known_items new (x ∷ (xs ++ added kind n at len ∷ [])) ≡ known_items r (x ∷ xs) ++ last
    go true e rest =
        known-next new x (xs ++ added kind n at len ∷ []) e
        ∙ ap (λ (v : List ℕ). record { id = x.id; value = v } ∷ known_items new (xs ++ added kind n at len ∷ [])) (h x (inl refl))
        ∙ ap (λ (ys : List Item). item_of r x ∷ ys) rest
        ∙ ap (λ (ys : List Item). ys ++ last) (sym (known-next r x xs e))
    go false e rest = unknown-next new x (xs ++ added kind n at len ∷ []) e ∙ rest ∙ ap (λ (ys : List Item). ys ++ last) (sym (unknown-next r x xs e))

none_there : (id : List ℕ) → is_none (item_value [] id) ≡ true
unfolding item_value
none_there id = refl

more_value : (xs : List Item) (x : Item) (id : List ℕ) → is_of id x ≡ false → item_value (xs ++ x ∷ []) id ≡ item_value xs id
more_value [] x id h = value_next id x [] h
more_value (y ∷ xs) x id h = go (is_of id y) refl (more_value xs x id h)
  where
    go : (b : Bool) → is_of id y ≡ b → item_value (xs ++ x ∷ []) id ≡ item_value xs id → item_value (y ∷ (xs ++ x ∷ [])) id ≡ item_value (y ∷ xs) id
    go true e rest = value_here id y (xs ++ x ∷ []) e ∙ sym (value_here id y xs e)
    go false e rest = value_next id y (xs ++ x ∷ []) e ∙ rest ∙ sym (value_next id y xs e)

last_value : (xs : List Item) (x : Item) (id : List ℕ) → is_none (item_value xs id) ≡ true → is_of id x ≡ true → item_value (xs ++ x ∷ []) id ≡ Some x.value
last_value [] x id n h = value_here id x [] h
last_value (y ∷ xs) x id n h = go (is_of id y) refl (last_value xs x id)
  where
    go : (b : Bool) → is_of id y ≡ b → (is_none (item_value xs id) ≡ true → is_of id x ≡ true → item_value (xs ++ x ∷ []) id ≡ Some x.value)
        → item_value (y ∷ (xs ++ x ∷ [])) id ≡ Some x.value
    go true e rest = let no : true ≡ false = sym n ∙ ap is_none (value_here id y xs e) in cc
    go false e rest = value_next id y (xs ++ x ∷ []) e ∙ rest (sym (ap is_none (value_next id y xs e)) ∙ n) h

still_there : (xs : List Item) (x : Item) (id : List ℕ) → is_none (item_value xs id) ≡ false → is_none (item_value (xs ++ x ∷ []) id) ≡ false
still_there [] x id h = let no : true ≡ false = sym (none_there id) ∙ h in cc
still_there (y ∷ xs) x id h = go (is_of id y) refl (still_there xs x id)
  where
    go : (b : Bool) → is_of id y ≡ b → (is_none (item_value xs id) ≡ false → is_none (item_value (xs ++ x ∷ []) id) ≡ false) → is_none (item_value (y ∷ (xs ++ x ∷ [])) id) ≡ false
    go true e rest = ap is_none (value_here id y (xs ++ x ∷ []) e)
    go false e rest = ap is_none (value_next id y (xs ++ x ∷ []) e) ∙ rest (sym (ap is_none (value_next id y xs e)) ∙ h)

abbrev pub item : ItemKind → List ℕ → Item
item kind v = record { id = id_of kind; value = v }

same_more : (kind : ItemKind) (v : List ℕ) (xs : List Item) → SameNeeded (xs ++ item kind v ∷ []) xs
same_more Locator v xs = record {
  parameters = more_value xs (item Locator v) FILE_PARAMETERS refl;
  size = more_value xs (item Locator v) DISK_SIZE refl;
  disk = more_value xs (item Locator v) DISK_ID refl;
  logical = more_value xs (item Locator v) LOGICAL_SECTOR refl;
  physical = more_value xs (item Locator v) PHYSICAL_SECTOR refl;
}
same_more Retired v xs = record {
  parameters = more_value xs (item Retired v) FILE_PARAMETERS refl;
  size = more_value xs (item Retired v) DISK_SIZE refl;
  disk = more_value xs (item Retired v) DISK_ID refl;
  logical = more_value xs (item Retired v) LOGICAL_SECTOR refl;
  physical = more_value xs (item Retired v) PHYSICAL_SECTOR refl;
}

none_missing : (kind : ItemKind) (v : List ℕ) (items : List Item) → missing_item items ≡ None → missing_item (items ++ item kind v ∷ []) ≡ None
unfolding missing_item
none_missing kind v items h =
    ap (λ (b : Bool). find (λ id. is_none (item_value (items ++ item kind v ∷ []) id)) (needed_by b)) (parent_kept (items ++ item kind v ∷ []) items (same_more kind v items))
    ∙ none_found (λ id. is_none (item_value (items ++ item kind v ∷ []) id)) (needed_by (has_parent items))
    (λ id i. still_there items (item kind v) id (found_none (λ z. is_none (item_value items z)) (needed_by (has_parent items)) id h i))

none_bad : (kind : ItemKind) (v : List ℕ) (items : List Item) (bat_len : ℕ) → is_bad_item items bat_len (item kind v) ≡ false → find (is_bad_item items bat_len) items ≡ None
    → find (is_bad_item (items ++ item kind v ∷ []) bat_len) (items ++ item kind v ∷ []) ≡ None
none_bad kind v items bat_len fine good =
    none_more (is_bad_item (items ++ item kind v ∷ []) bat_len) items (item kind v)
    (λ x i. same_bad (items ++ item kind v ∷ []) items bat_len x (same_more kind v items) ∙ found_none (is_bad_item items bat_len) items x good i)
    (same_bad (items ++ item kind v ∷ []) items bat_len (item kind v) (same_more kind v items) ∙ fine)

-- so the items are read
pub items_more : (kind : ItemKind) (v : List ℕ) (items : List Item) (bat_len : ℕ) (m : Metadata) → is_bad_item items bat_len (item kind v) ≡ false
    → read_items items bat_len ≡ Ok m → (read_items (items ++ item kind v ∷ []) bat_len ≡ Ok (metadata_of (items ++ item kind v ∷ []))) × (metadata_of items ≡ m)
unfolding read_items
items_more kind v items bat_len m fine h =
    let a = unless_some_ok (missing_item items) MissingItem _ m h in
    let b = unless_some_ok (find (is_bad_item items bat_len) items) (λ item. BadItem item.id) _ m a.1 in
    let none : missing_item (items ++ item kind v ∷ []) ≡ None = none_missing kind v items a.0 in
    let good : find (is_bad_item (items ++ item kind v ∷ []) bat_len) (items ++ item kind v ∷ []) ≡ None = none_bad kind v items bat_len fine b.0 in
    (rw (none, good) refl, same_ok (metadata_of items) m b.1)

-- the metadata with the value of one item changed
abbrev pub changed : ItemKind → List ℕ → Metadata → Metadata
changed Locator v m = record m { locator = Some v }
changed Retired v m = record m { retired = retired_in v }

pub more_says : (kind : ItemKind) (v : List ℕ) (items : List Item) → is_none (item_value items (id_of kind)) ≡ true
    → metadata_of (items ++ item kind v ∷ []) ≡ changed kind v (metadata_of items)
unfolding metadata_of
more_says Locator v items h =
    let s = same_more Locator v items in
    let self = last_value items (item Locator v) PARENT_LOCATOR h refl in
    let retired = more_value items (item Locator v) RETIRED refl in
    rw (s.parameters, s.size, s.disk, s.logical, s.physical, self, retired) refl
more_says Retired v items h =
    let s = same_more Retired v items in
    let self = last_value items (item Retired v) RETIRED h refl in
    let locator = more_value items (item Retired v) PARENT_LOCATOR refl in
    rw (s.parameters, s.size, s.disk, s.logical, s.physical, self, locator) refl

-- ---- an item is there just where its entry is

not_other : (kind : ItemKind) (x : MetadataEntry) → is_known_item x ≡ true → is_of_kind kind x ≡ false → bytes_eq x.id (id_of kind) ≡ false
not_other kind x k n = go (bytes_eq x.id (id_of kind)) refl
  where
    go : (b : Bool) → bytes_eq x.id (id_of kind) ≡ b → b ≡ false
    go false e = refl
    go true e = sym (kind_known kind x e k) ∙ n

pub item_absent : (kind : ItemKind) (r : List ℕ) (es : List MetadataEntry) → find (is_of_kind kind) es ≡ None → is_none (item_value (known_items r es) (id_of kind)) ≡ true
item_absent kind r [] h = ap (λ (z : List Item). is_none (item_value z (id_of kind))) (known-none r) ∙ none_there (id_of kind)
item_absent kind r (x ∷ xs) h =
    let n = none_next (is_of_kind kind) x xs (x ∷ xs) refl h in
    go (is_known_item x) refl n.0 (item_absent kind r xs n.1)
  where
    go : (b : Bool) → is_known_item x ≡ b → is_of_kind kind x ≡ false → is_none (item_value (known_items r xs) (id_of kind)) ≡ true → is_none (item_value (known_items r (x ∷ xs)) (id_of kind)) ≡ true
    go true e n rest =
        ap (λ (z : List Item). is_none (item_value z (id_of kind))) (known-next r x xs e)
        ∙ ap is_none (value_next (id_of kind) (item_of r x) (known_items r xs) (not_other kind x e n)) ∙ rest
    go false e n rest = ap (λ (z : List Item). is_none (item_value z (id_of kind))) (unknown-next r x xs e) ∙ rest

known_of : (b : Bool) → not b ≡ true → (not b || false) ≡ true
known_of true h = h
known_of false h = refl

of_kind_known : (kind : ItemKind) (i a l f : ℕ) → is_of_kind kind (made i (id_of kind) a l f) ≡ true → is_known_item (made i (id_of kind) a l f) ≡ true
of_kind_known Locator i a l f h = known_of (has_flag f 1) h
of_kind_known Retired i a l f h = h

kind_is_known : (kind : ItemKind) (e : MetadataEntry) → is_of_kind kind e ≡ true → is_known_item e ≡ true
kind_is_known kind e h =
    let same : e.id ≡ id_of kind = kind_id kind e h in
    ap (λ (z : List ℕ). is_known_item (made e.index z e.at e.len e.flags)) same
    ∙ of_kind_known kind e.index e.at e.len e.flags (ap (λ (z : List ℕ). is_of_kind kind (made e.index z e.at e.len e.flags)) (sym same) ∙ h)

pub item_present : (kind : ItemKind) (r : List ℕ) (es : List MetadataEntry) (old : MetadataEntry) → find (is_of_kind kind) es ≡ Some old → is_none (item_value (known_items r es) (id_of kind)) ≡ false
item_present kind r [] old h = cc
item_present kind r (x ∷ xs) old h = go (is_of_kind kind x) refl h (item_present kind r xs old)
  where
    here : is_of_kind kind x ≡ true → is_none (item_value (known_items r (x ∷ xs)) (id_of kind)) ≡ false
    here e =
        ap (λ (z : List Item). is_none (item_value z (id_of kind))) (known-next r x xs (kind_is_known kind x e))
        ∙ ap is_none (value_here (id_of kind) (item_of r x) (known_items r xs) ((bytes_eq-Decides x.id (id_of kind)).1 (kind_id kind x e)))

    by_known : (b : Bool) → is_known_item x ≡ b → is_of_kind kind x ≡ false → is_none (item_value (known_items r xs) (id_of kind)) ≡ false → is_none (item_value (known_items r (x ∷ xs)) (id_of kind)) ≡ false
    by_known true e n rest =
        ap (λ (z : List Item). is_none (item_value z (id_of kind))) (known-next r x xs e)
        ∙ ap is_none (value_next (id_of kind) (item_of r x) (known_items r xs) (not_other kind x e n)) ∙ rest
    by_known false e n rest = ap (λ (z : List Item). is_none (item_value z (id_of kind))) (unknown-next r x xs e) ∙ rest

    go : (b : Bool) → is_of_kind kind x ≡ b → cond b (Some x) (find (is_of_kind kind) xs) ≡ Some old
        → (find (is_of_kind kind) xs ≡ Some old → is_none (item_value (known_items r xs) (id_of kind)) ≡ false) → is_none (item_value (known_items r (x ∷ xs)) (id_of kind)) ≡ false
    go true e h rest = here e
    go false e h rest = by_known (is_known_item x) refl e (rest h)
