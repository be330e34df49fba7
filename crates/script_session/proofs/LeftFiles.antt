-- The files below the leaf that stay when a merge is finished: their numbers stay whatever the steps of the merge do.
use Rattle.std.proofs.Common.{◌≡◌, ◌+◌, ◌==◌, ◌⊎◌, inl, inr, if◌then◌else◌, subst, ℕ, Bool, true, false, List, [], ◌∷◌, ◌++◌, length, map, refl, sym, ap, ap₂, ◌∙◌}
use Rattle.std.specs.Prelude.{Option, is_some}
use Rattle.std.specs.List.{AllByRecursion}
use Rattle.std.proofs.lemmas.Bool.{eq-eqb, eqb-true}
use Rattle.std.proofs.lemmas.List.{append_assoc, map-append}
use Rattle.vx_base.specs.declared.parts.Parts.{Parts}
use Rattle.vhdx_format.specs.declared.log_entry.Page.{Page}
use Rattle.guest_model.specs.History.{History}
use Rattle.store_model.specs.File.{File, is_synced, seen}
use Rattle.layer_session.specs.Unnamed.{NamesNoLog}
use Rattle.store_model.specs.Trace.{Trace, file_of}
use Rattle.link_rules.specs.declared.linked.LinkedFile.{LinkedFile}
use Rattle.layer_session.specs.Begins.{as_found, in_session}
use Rattle.merge_plan.specs.Attached.{AreAsOpened, IsAsOpened}
use Rattle.merge_plan.specs.Merging.{MergeFiles}
use Rattle.merge_plan.specs.declared.drawing.LogIds.{LogIds}
use Rattle.merge_plan.specs.declared.drawing.MergeIds.{MergeIds}
use Rattle.chain_model.specs.Images.{Placed}
use Rattle.chain_model.specs.Merges.{Piece}
use Rattle.chain_core.specs.Finished.{Look, look_of}
use Rattle.chain_core.specs.MergeStarting.{between_in, data_session, inner_parts, leaf_of, source_in, started_merge, target_in, target_place, top_in}
use Rattle.chain_core.specs.Merging.{put_on, with_piece, with_put}
use Rattle.chain_core.specs.Skipping.{passed_on, with_passed}
use Rattle.chain_core.specs.Starting.{placed_from}
use Rattle.chain_core.specs.States.{Rest, State, merging, others_of, plain, retiring}
use Rattle.chain_core.proofs.MergeFound.{AreFound, child_opened, opened_above, rest_opened, source_opened, target_opened}
use Rattle.script_session.specs.Histories.{GoesOn, HasRetired, IsLater, all_names, is_under_way, merges_leaf, names_left, numbers_left, source_began, staying}

abbrev pub number_of : Placed → ℕ
number_of f = f.number

-- a piece is put
pub numbers_put : (piece : Piece) (v : State) → numbers_left (with_put piece v) ≡ numbers_left v
numbers_put piece v = by_rest v.top v.rest
  where
    by_rest : (top : Placed) (rest : Rest) → map number_of (staying top (put_on piece rest)) ≡ map number_of (staying top rest)
    by_rest top (plain others) = refl
    by_rest top (merging above source target below m) = ap (λ ns. top.number ∷ ns) (map-append number_of above (with_piece piece target ∷ below) ∙ sym (map-append number_of above (target ∷ below)))
    by_rest top (retiring target below first before) = refl

-- a merge is finished
pub looks_numbers : (files : List Placed) → map (λ (l : Look). l.number) (map look_of files) ≡ map number_of files
looks_numbers [] = refl
looks_numbers (f ∷ files) = ap (λ rest. f.number ∷ rest) (looks_numbers files)

pub numbers_seen : (a b : List Placed) → map look_of a ≡ map look_of b → map number_of a ≡ map number_of b
numbers_seen a b same = sym (looks_numbers a) ∙ ap (map (λ (l : Look). l.number)) same ∙ looks_numbers b

-- what holds of all files holds of those that stay
pub all_stay : (P : Placed → Type 0) (top : Placed) (rest : Rest) → P top → AllByRecursion P (others_of rest) → AllByRecursion P (staying top rest)
all_stay P top (plain others) first h = (first, h)
all_stay P top (retiring target below m before) first h = h
all_stay P top (merging above source target below m) first h = (first, by_above above h) where
  by_above : (files : List Placed) → AllByRecursion P (files ++ (source ∷ target ∷ below)) → AllByRecursion P (files ++ (target ∷ below))
  by_above [] k = k.1
  by_above (f ∷ files) k = (k.0, by_above files k.1)

-- and of their numbers
pub all_numbers : (P : ℕ → Type 0) (files : List Placed) → AllByRecursion (λ f. P f.number) files → AllByRecursion P (map number_of files)
all_numbers P [] h = tt
all_numbers P (f ∷ files) h = (h.0, all_numbers P files h.1)

-- what holds of some holds of one among them
pub all_at : {A : Type 0} (P : A → Type 0) (first : List A) (one : A) (last : List A) → AllByRecursion P (first ++ one ∷ last) → P one
all_at P [] one last h = h.0
all_at P (x ∷ first) one last h = all_at P first one last h.1

-- ---- names

abbrev pub name_of : Placed → List ℕ
name_of f = f.member.name

pub names_put : (piece : Piece) (v : State) → names_left (with_put piece v) ≡ names_left v
names_put piece v = by_rest v.top v.rest
  where
    by_rest : (top : Placed) (rest : Rest) → map name_of (staying top (put_on piece rest)) ≡ map name_of (staying top rest)
    by_rest top (plain others) = refl
    by_rest top (retiring target below first before) = refl
    by_rest top (merging above source target below m) = ap (λ ns. name_of top ∷ ns) (map-append name_of above (with_piece piece target ∷ below) ∙ sym (map-append name_of above (target ∷ below)))

-- ---- what a later state may change

never_both : {P : Type 0} {b : Bool} → b ≡ true → b ≡ false → P
never_both {P} {b} is isnt = absurd (let bad : true ≡ false = sym is ∙ isnt in cc)

gone : (v : State) → (if v.top.number == v.top.number then false else v.writes v.top.number) ≡ false
gone v = ap (λ (b : Bool). if b then false else v.writes v.top.number) (eq-eqb v.top.number v.top.number refl)

-- what isn't written stays so
gone_too : (v : State) (n : ℕ) → v.writes n ≡ false → (if n == v.top.number then false else v.writes n) ≡ false
gone_too v n none = by_test (n == v.top.number)
  where
    by_test : (b : Bool) → (if b then false else v.writes n) ≡ false
    by_test true = refl
    by_test false = none

-- what isn't written any more is the leaf
is_leaf : (v : State) (n : ℕ) → v.writes n ≡ true → (if n == v.top.number then false else v.writes n) ≡ false → n ≡ v.top.number
is_leaf v n some none = by_test (n == v.top.number) refl none
  where
    by_test : (b : Bool) → (n == v.top.number) ≡ b → (if b then false else v.writes n) ≡ false → n ≡ v.top.number
    by_test true e none = eqb-true n v.top.number e
    by_test false e none = never_both some none

pub later_writes : (v later : State) → GoesOn v later ⊎ HasRetired v later → (n : ℕ) → v.writes n ≡ false → later.writes n ≡ false
later_writes v later (inl goes) n none = ap (λ f. f n) goes.writes ∙ none
later_writes v later (inr done) n none = ap (λ f. f n) done.writes ∙ gone_too v n none

pub later_since : (v later : State) → GoesOn v later ⊎ HasRetired v later → (n : ℕ) → v.writes n ≡ false → file_of later.since n ≡ file_of v.since n
later_since v later (inl goes) n none = ap (λ t. file_of t n) goes.since
later_since v later (inr done) n none = done.since n none

pub later_number : (v later : State) → GoesOn v later ⊎ HasRetired v later → later.writes v.top.number ≡ true → later.top.number ≡ v.top.number
later_number v later (inl goes) own = goes.number
later_number v later (inr done) own = never_both own (ap (λ f. f v.top.number) done.writes ∙ gone v)

-- what a state wrote and a later one doesn't is at rest since
later_rests : (v later : State) → GoesOn v later ⊎ HasRetired v later → (n : ℕ) → v.writes n ≡ true → later.writes n ≡ false → is_synced (file_of later.since n) ≡ true
later_rests v later (inl goes) n some none = never_both some (sym (ap (λ f. f n) goes.writes) ∙ none)
later_rests v later (inr done) n some none = ap (λ k. is_synced (file_of later.since k)) (is_leaf v n some (sym (ap (λ f. f n) done.writes) ∙ none)) ∙ done.rests

-- what a state wrote is at rest where what it writes now is
pub own_synced : (v later : State) (h : History) (now : Trace) → IsLater v h later → ((n : ℕ) → later.writes n ≡ false → file_of now n ≡ file_of later.since n) → (n : ℕ) → v.writes n ≡ true → (later.writes n ≡ true → is_synced (file_of now n) ≡ true)
    → is_synced (file_of now n) ≡ true
own_synced v later h now is still n some own = by_write (later.writes n) refl
  where
    by_write : (b : Bool) → later.writes n ≡ b → is_synced (file_of now n) ≡ true
    by_write true e = own e
    by_write false e = ap is_synced (still n e) ∙ later_rests v later is.goes n some e

-- such a file names no log since
later_unnamed : (v later : State) → GoesOn v later ⊎ HasRetired v later → (n : ℕ) → v.writes n ≡ true → later.writes n ≡ false → NamesNoLog (seen (file_of later.since n))
later_unnamed v later (inl goes) n some none = absurd (let bad : true ≡ false = sym some ∙ sym (ap (λ f. f n) goes.writes) ∙ none in cc)
later_unnamed v later (inr done) n some none = subst (λ k. NamesNoLog (seen (file_of later.since k))) (sym (is_leaf v n some (sym (ap (λ f. f n) done.writes) ∙ none))) done.no_log

-- and what a state wrote names none where what it writes now doesn't
pub own_unnamed : (v later : State) (h : History) (now : Trace) → IsLater v h later → ((n : ℕ) → later.writes n ≡ false → file_of now n ≡ file_of later.since n) → (n : ℕ) → v.writes n ≡ true → (later.writes n ≡ true → NamesNoLog (seen (file_of now n)))
    → NamesNoLog (seen (file_of now n))
own_unnamed v later h now is still n some own = by_write (later.writes n) refl
  where
    by_write : (b : Bool) → later.writes n ≡ b → NamesNoLog (seen (file_of now n))
    by_write true e = own e
    by_write false e = subst (λ (f : File). NamesNoLog (seen f)) (sym (still n e)) (later_unnamed v later is.goes n some e)

-- ---- steps

-- no step at all
pub later_itself : (v : State) → IsLater v v.history v
later_itself v = record { leaf = refl; opening = refl; began = refl; left = refl; names = refl; history = refl; goes = inl (record { number = refl; name = refl; retired = refl; writes = refl; since = refl; merges = refl }); whole = λ e. (e, refl); source = λ e. refl }

goes_twice : (v w later : State) → GoesOn v w → GoesOn w later → GoesOn v later
goes_twice v w later one more = record {
  number = more.number ∙ one.number;
  name = more.name ∙ one.name;
  retired = more.retired ∙ one.retired;
  writes = more.writes ∙ one.writes;
  since = more.since ∙ one.since;
  merges = more.merges ∙ one.merges;
}

retires_after : (v w later : State) → GoesOn v w → HasRetired w later → HasRetired v later
retires_after v w later one done = record {
  leaf = done.leaf;
  merges = sym one.merges ∙ done.merges;
  ended = done.ended;
  number = done.number ∙ one.number;
  name = done.name ∙ one.name;
  retired = done.retired ∙ ap (λ files. files ++ done.leaf ∷ []) one.retired;
  writes = done.writes ∙ ap₂ (λ (k : ℕ) (f : ℕ → Bool). λ n. if n == k then false else f n) one.number one.writes;
  since = λ n none. done.since n (ap (λ f. f n) one.writes ∙ none) ∙ ap (λ t. file_of t n) one.since;
  rests = subst (λ k. is_synced (file_of later.since k) ≡ true) one.number done.rests;
  no_log = subst (λ k. NamesNoLog (seen (file_of later.since k))) one.number done.no_log;
}

goes_after : (v w later : State) → HasRetired v w → GoesOn w later → HasRetired v later
goes_after v w later done more = record {
  leaf = done.leaf;
  merges = done.merges;
  ended = more.merges ∙ done.ended;
  number = done.number;
  name = done.name;
  retired = more.retired ∙ done.retired;
  writes = more.writes ∙ done.writes;
  since = λ n none. ap (λ t. file_of t n) more.since ∙ done.since n none;
  rests = ap (λ t. is_synced (file_of t v.top.number)) more.since ∙ done.rests;
  no_log = subst (λ t. NamesNoLog (seen (file_of t v.top.number))) (sym more.since) done.no_log;
}

-- a leaf is merged once in a session
later_goes : (v w later : State) → GoesOn v w ⊎ HasRetired v w → GoesOn w later ⊎ HasRetired w later → GoesOn v later ⊎ HasRetired v later
later_goes v w later (inl one) (inl more) = inl (goes_twice v w later one more)
later_goes v w later (inl one) (inr done) = inr (retires_after v w later one done)
later_goes v w later (inr done) (inl more) = inr (goes_after v w later done more)
later_goes v w later (inr done) (inr again) = never_both again.merges done.ended

-- a step that leaves the same files in the chain
pub later_same : (v w : State) (h : History) (later : State) → w.leaf ≡ v.leaf → w.opening ≡ v.opening → w.began ≡ v.began → numbers_left w ≡ numbers_left v → names_left w ≡ names_left v → GoesOn v w ⊎ HasRetired v w
    → (is_under_way w.rest ≡ true → (is_under_way v.rest ≡ true) × (all_names w ≡ all_names v)) → (is_some (source_began w.rest) ≡ true → source_began w.rest ≡ source_began v.rest) → IsLater w h later → IsLater v h later
later_same v w h later leaf opening began left names goes all source is = record {
  leaf = is.leaf ∙ leaf;
  opening = is.opening ∙ opening;
  began = is.began ∙ began;
  left = is.left ∙ left;
  names = is.names ∙ names;
  history = is.history;
  goes = later_goes v w later goes is.goes;
  whole = λ e.
      let more = is.whole e in
      let one = all more.0 in
      (one.0, more.1 ∙ one.1);
  source = λ e. let last = is.source e in last ∙ source (subst (λ o. is_some o ≡ true) last e);
}

merges_put : (piece : Piece) (rest : Rest) → merges_leaf (put_on piece rest) ≡ merges_leaf rest
merges_put piece (plain others) = refl
merges_put piece (merging above source target below m) = refl
merges_put piece (retiring target below first before) = refl

-- a put leaves the names of all files
all_put : (piece : Piece) (v : State) → is_under_way (put_on piece v.rest) ≡ true → (is_under_way v.rest ≡ true) × (all_names (with_put piece v) ≡ all_names v)
all_put piece v e = by_rest v.top v.rest e
  where
    by_rest : (top : Placed) (rest : Rest) → is_under_way (put_on piece rest) ≡ true → (is_under_way rest ≡ true) × (map name_of (top ∷ others_of (put_on piece rest)) ≡ map name_of (top ∷ others_of rest))
    by_rest top (plain others) e = let never : false ≡ true = e in cc
    by_rest top (retiring target below first before) e = (refl, refl)
    by_rest top (merging above source target below m) e = (refl, ap (λ ns. name_of top ∷ ns) (map-append name_of above (source ∷ with_piece piece target ∷ below) ∙ sym (map-append name_of above (source ∷ target ∷ below))))

source_put : (piece : Piece) (rest : Rest) → source_began (put_on piece rest) ≡ source_began rest
source_put piece (plain others) = refl
source_put piece (merging above source target below m) = refl
source_put piece (retiring target below first before) = refl

pub later_put : (v : State) (piece : Piece) (h : History) (later : State) → IsLater (with_put piece v) h later → IsLater v h later
later_put v piece h later is =
    later_same v (with_put piece v) h later refl refl refl (numbers_put piece v) (names_put piece v) (inl (record { number = refl; name = refl; retired = refl; writes = refl; since = refl; merges = merges_put piece v.rest })) (all_put piece v) (λ e. source_put piece v.rest) is

-- what is passed over leaves all files as they are
pub later_pass : (v : State) (from n : ℕ) (h : History) (later : State) → IsLater (with_passed from n v) h later → IsLater v h later
later_pass v from n h later is =
    later_same v (with_passed from n v) h later refl refl refl (same_numbers v.top v.rest) (same_names v.top v.rest) (inl (record { number = refl; name = refl; retired = refl; writes = refl; since = refl; merges = same_kind v.rest })) (same_all v.top v.rest) (λ e. same_began v.rest) is
  where
    same_numbers : (top : Placed) (rest : Rest) → map number_of (staying top (passed_on from n rest)) ≡ map number_of (staying top rest)
    same_numbers top (plain others) = refl
    same_numbers top (merging above source target below m) = refl
    same_numbers top (retiring target below first before) = refl

    same_names : (top : Placed) (rest : Rest) → map name_of (staying top (passed_on from n rest)) ≡ map name_of (staying top rest)
    same_names top (plain others) = refl
    same_names top (merging above source target below m) = refl
    same_names top (retiring target below first before) = refl

    same_kind : (rest : Rest) → merges_leaf (passed_on from n rest) ≡ merges_leaf rest
    same_kind (plain others) = refl
    same_kind (merging above source target below m) = refl
    same_kind (retiring target below first before) = refl

    same_all : (top : Placed) (rest : Rest) → is_under_way (passed_on from n rest) ≡ true → (is_under_way rest ≡ true) × (map name_of (top ∷ others_of (passed_on from n rest)) ≡ map name_of (top ∷ others_of rest))
    same_all top (plain others) e = let never : false ≡ true = e in cc
    same_all top (merging above source target below m) e = (refl, refl)
    same_all top (retiring target below first before) e = (refl, refl)

    same_began : (rest : Rest) → source_began (passed_on from n rest) ≡ source_began rest
    same_began (plain others) = refl
    same_began (merging above source target below m) = refl
    same_began (retiring target below first before) = refl

pub looks_names : (files : List Placed) → map (λ (l : Look). l.name) (map look_of files) ≡ map name_of files
looks_names [] = refl
looks_names (f ∷ files) = ap (λ rest. name_of f ∷ rest) (looks_names files)

pub names_seen : (a b : List Placed) → map look_of a ≡ map look_of b → map name_of a ≡ map name_of b
names_seen a b same = sym (looks_names a) ∙ ap (map (λ (l : Look). l.name)) same ∙ looks_names b

-- files as they are found have their names
pub names_placed : (t : Trace) (n : ℕ) (files : List LinkedFile) → AreAsOpened t n files → map name_of (placed_from t n files) ≡ map (λ (f : LinkedFile). f.name) files
names_placed t n [] o = refl
names_placed t n (f ∷ files) o = ap₂ (λ (x : List ℕ) (xs : List (List ℕ)). x ∷ xs) o.0.name (names_placed t (n + 1) files o.1)

-- the leaf and the files between it and the source
names_above : (t : Trace) (above : List LinkedFile) (child : LinkedFile) (top inner : Parts) (own : Option LogIds) → AreAsOpened t 0 above → IsAsOpened t (length above) child
    → map name_of (as_found t 0 top ∷ between_in t above child own) ≡ map (λ (f : LinkedFile). f.name) above ++ child.name ∷ []
names_above t [] child top inner own o c = ap (λ (x : List ℕ). x ∷ []) c.name
names_above t (f ∷ above) child top inner own o c =
    let last : Placed = as_found t (length (f ∷ above)) (inner_parts own child.parts) in
    ap₂ (λ (x : List ℕ) (xs : List (List ℕ)). x ∷ xs) o.0.name
    (map-append name_of (placed_from t 1 above) (last ∷ []) ∙ ap₂ (λ (xs ys : List (List ℕ)). xs ++ ys) (names_placed t 1 above o.1) (ap (λ (x : List ℕ). x ∷ []) c.name))

-- the files of a merge but for its source, as it starts
pub names_started : (t now : Trace) (m : MergeFiles) (ids : MergeIds) (pages : List Page) → AreFound t m → names_left (started_merge t now m ids pages) ≡ map (λ (f : LinkedFile). f.name) (m.above ++ m.child ∷ m.target ∷ m.below)
names_started t now m ids pages found =
    let front : List Placed = top_in t m ids ∷ between_in t m.above m.child ids.child in
    let behind : List Placed = target_in t m ids ∷ placed_from t (target_place m + 1) m.below in
    let name : LinkedFile → List ℕ = λ f. f.name in
    map-append name_of front behind
    ∙ ap₂ (λ (xs ys : List (List ℕ)). xs ++ ys)
    (names_above t m.above m.child (in_session (leaf_of m).parts (data_session ids.leaf)) m.child.parts ids.child (opened_above t 0 m.above (m.child ∷ m.source ∷ m.target ∷ m.below) found.attached.each) (child_opened t m found))
    (ap₂ (λ (x : List ℕ) (xs : List (List ℕ)). x ∷ xs) (target_opened t m found).name (names_placed t (target_place m + 1) m.below (rest_opened t m found)))
    ∙ append_assoc (map name m.above) (m.child.name ∷ []) (m.target.name ∷ map name m.below) ∙ sym (map-append name m.above (m.child ∷ m.target ∷ m.below))

-- and all of them
pub names_all : (t now : Trace) (m : MergeFiles) (ids : MergeIds) (pages : List Page) → AreFound t m → all_names (started_merge t now m ids pages) ≡ map (λ (f : LinkedFile). f.name) (m.above ++ m.child ∷ m.source ∷ m.target ∷ m.below)
names_all t now m ids pages found =
    let front : List Placed = top_in t m ids ∷ between_in t m.above m.child ids.child in
    let behind : List Placed = source_in t m ids pages ∷ target_in t m ids ∷ placed_from t (target_place m + 1) m.below in
    let name : LinkedFile → List ℕ = λ f. f.name in
    map-append name_of front behind
    ∙ ap₂ (λ (xs ys : List (List ℕ)). xs ++ ys)
    (names_above t m.above m.child (in_session (leaf_of m).parts (data_session ids.leaf)) m.child.parts ids.child (opened_above t 0 m.above (m.child ∷ m.source ∷ m.target ∷ m.below) found.attached.each) (child_opened t m found))
    (ap₂ (λ (x : List ℕ) (xs : List (List ℕ)). x ∷ xs) (source_opened t m found).name
    (ap₂ (λ (x : List ℕ) (xs : List (List ℕ)). x ∷ xs) (target_opened t m found).name (names_placed t (target_place m + 1) m.below (rest_opened t m found))))
    ∙ append_assoc (map name m.above) (m.child.name ∷ []) (m.source.name ∷ m.target.name ∷ map name m.below) ∙ sym (map-append name m.above (m.child ∷ m.source ∷ m.target ∷ m.below))
