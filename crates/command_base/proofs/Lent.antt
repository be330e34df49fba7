-- Files of a folder that are lent together, only read, and come back.
use Rattle.std.proofs.Common.{◌≡◌, ◌≢◌, inl, inr, ℕ, zero, suc, ◌+◌, ◌<◌, Bool, true, false, cond, List, [], ◌∷◌, ◌++◌, length, map, Option, Some, None, refl, sym, ap, subst, ◌∙◌, arith}
use Rattle.std.specs.Prelude.{◌||◌, All, option_map, slice_index_or, unwrap_or}
use Rattle.std.specs.List.{AllByRecursion, IsDistinct}
use Rattle.std.specs.Str.{bytes_eq}
use Rattle.std.proofs.lemmas.Bool.{cases_Bool, or_left, or_right}
use Rattle.std.proofs.lemmas.List.{append_assoc, length-append, length-map, map-append}
use Rattle.std.proofs.lemmas.Option.{same_Some}
use Rattle.std.proofs.lemmas.Slice.Eq.{bytes_eq-Decides}
use Rattle.std.proofs.Math.Seq.{get_or-append_seam}
use Rattle.store_model.specs.File.{File, IsFileImage, IsImageAfter, Op, Sync, Seal, Write, Tear, Grow, is_synced, is_synced_after, seen, seen_after}
use Rattle.store_model.specs.Folder.{AreAway, CanAttach, Held, attached_trace, back_from, file_named, fresh, given_back, has_name, seen_named, with_file, without}
use Rattle.store_model.specs.Trace.{NamedBytes, Trace, bytes_of, file_of}
use Rattle.chain_model.specs.Images.{name_of}
use Rattle.chain_model.specs.Members.{NoneTwice}
use Rattle.file_open.specs.Effects.{OpensAlike, StaysLike}
use Rattle.link_rules.specs.Chains.{is_among}
use Rattle.link_rules.specs.Chains as chains
use Rattle.link_rules.specs.Folders.{AllIdle, contents}
use Rattle.link_rules.specs.Touches.{AreSafe, IsSafeFile, touched, untouched}
use Rattle.link_rules.proofs.Composing.{alike_itself}
use Rattle.link_rules.proofs.Lent.{can_attach, rest_idle, same_name, twice}
use Rattle.link_rules.specs.declared.linked.LinkedFile.{LinkedFile}
use Rattle.command_base.specs.Commands.{AreAnew, AreOpened, IsAnew}
use Rattle.command_base.specs.Commands as anew

-- ---- names

pub is_itself : (a : List ℕ) → bytes_eq a a ≡ true
is_itself a = (bytes_eq-Decides a a).1 refl

pub apart : (a b : List ℕ) → a ≢ b → bytes_eq a b ≡ false
apart a b other = elim (cases_Bool (bytes_eq a b)) [ inl e ↦ absurd (other (same_name a b e)) | inr e ↦ e ]

pub distinct : (names : List (List ℕ)) → NoneTwice names → IsDistinct bytes_eq names
unfolding IsDistinct
distinct [] once = tt
distinct (name ∷ names) once = (others names once.0, distinct names once.1)
  where
    others : (rest : List (List ℕ)) → AllByRecursion (λ other. other ≢ name) rest → AllByRecursion (λ y. bytes_eq name y ≡ false) rest
    others [] h = tt
    others (other ∷ rest) h = (apart name other (λ e. h.0 (sym e)), others rest h.1)

-- ---- a folder with other files under some names

pub commute : (a b : List ℕ) (x y : Option File) (folder : List Held) → bytes_eq a b ≡ false → with_file a x (with_file b y folder) ≡ with_file b y (with_file a x folder)
commute a b x y [] other = refl
commute a b x y (held ∷ folder) other = by_names (bytes_eq held.name a) (bytes_eq held.name b) refl refl (commute a b x y folder other) where
  by_names : (p q : Bool) → bytes_eq held.name a ≡ p → bytes_eq held.name b ≡ q → with_file a x (with_file b y folder) ≡ with_file b y (with_file a x folder)
      → with_file a x (with_file b y (held ∷ folder)) ≡ with_file b y (with_file a x (held ∷ folder))
  by_names true true e f rest = let never : true ≡ false = sym (is_itself a) ∙ ap (bytes_eq a) (sym (same_name held.name a e) ∙ same_name held.name b f) ∙ other in cc
  by_names true false e f rest = rw (f, e, f) refl
  by_names false true e f rest = rw (f, e, f) refl
  by_names false false e f rest = rw (f, e, f) (ap (λ r. held ∷ r) rest)

commute_all : (a : List ℕ) (x : Option File) (names : List (List ℕ)) (folder : List Held) → AllByRecursion (λ other. other ≢ a) names → with_file a x (without names folder) ≡ without names (with_file a x folder)
commute_all a x [] folder other = refl
commute_all a x (name ∷ names) folder other =
    commute_all a x names (with_file name None folder) other.1 ∙ ap (without names) (commute a name x None folder (apart a name (λ e. other.0 (sym e))))

unfoldable pub names_in : List NamedBytes → List (List ℕ)
names_in files = map (λ f. f.name) files

-- what comes back takes the places that were left
pub back_over : (i : ℕ) (files : List NamedBytes) (trace : Trace) (folder : List Held) → NoneTwice (names_in files) → back_from i files trace (without (names_in files) folder) ≡ back_from i files trace folder
unfolding names_in
back_over i [] trace folder once = refl
back_over i (f ∷ files) trace folder once =
    ap (back_from (i + 1) files trace) (commute_all f.name (Some (file_of trace i)) (names_in files) (with_file f.name None folder) once.0 ∙ ap (without (names_in files)) (twice f.name (Some (file_of trace i)) None folder))
    ∙ back_over (i + 1) files trace (with_file f.name (Some (file_of trace i)) folder) once.1

-- ---- a file that is away

none_stays : (name other : List ℕ) (folder : List Held) → file_named name folder ≡ None → file_named name (with_file other None folder) ≡ None
none_stays name other [] none = refl
none_stays name other (held ∷ folder) none = by_names (bytes_eq held.name other) (bytes_eq held.name name) refl refl (none_stays name other folder) where
  by_names : (p q : Bool) → bytes_eq held.name other ≡ p → bytes_eq held.name name ≡ q → (file_named name folder ≡ None → file_named name (with_file other None folder) ≡ None) → file_named name (with_file other None (held ∷ folder)) ≡ None
  by_names true true e f rest = rw (e, f) refl
  by_names true false e f rest = rw (e, f) (sym (ap (λ c. cond c held.file (file_named name folder)) f) ∙ none)
  by_names false true e f rest = rw (e, f) (sym (ap (λ c. cond c held.file (file_named name folder)) f) ∙ none)
  by_names false false e f rest = rw (e, f) (rest (sym (ap (λ c. cond c held.file (file_named name folder)) f) ∙ none))

away_one : (name : List ℕ) (folder : List Held) → file_named name (with_file name None folder) ≡ None
away_one name [] = refl
away_one name (held ∷ folder) = by_name (bytes_eq held.name name) refl (away_one name folder) where
  by_name : (p : Bool) → bytes_eq held.name name ≡ p → file_named name (with_file name None folder) ≡ None → file_named name (with_file name None (held ∷ folder)) ≡ None
  by_name true e rest = rw (e, e) refl
  by_name false e rest = rw (e, e) rest

away_still : (name : List ℕ) (names : List (List ℕ)) (folder : List Held) → file_named name folder ≡ None → file_named name (without names folder) ≡ None
away_still name [] folder none = none
away_still name (other ∷ names) folder none = away_still name names (with_file other None folder) (none_stays name other folder none)

pub names_with : (name other : List ℕ) (file : Option File) (folder : List Held) → has_name name (with_file other file folder) ≡ has_name name folder
names_with name other file [] = refl
names_with name other file (held ∷ folder) = by_name (bytes_eq held.name other) refl (names_with name other file folder) where
  by_name : (p : Bool) → bytes_eq held.name other ≡ p → has_name name (with_file other file folder) ≡ has_name name folder → has_name name (with_file other file (held ∷ folder)) ≡ has_name name (held ∷ folder)
  by_name true e rest = rw e refl
  by_name false e rest = rw e (ap (λ b. bytes_eq held.name name || b) rest)

names_without : (name : List ℕ) (names : List (List ℕ)) (folder : List Held) → has_name name (without names folder) ≡ has_name name folder
names_without name [] folder = refl
names_without name (other ∷ names) folder = names_without name names (with_file other None folder) ∙ names_with name other None folder

-- each of some names has its file away
IsAway : List Held → List ℕ → Type 0
IsAway folder name = (has_name name folder ≡ true) × (file_named name folder ≡ None)

all_away : (names : List (List ℕ)) (folder : List Held) → AllByRecursion (λ name. has_name name folder ≡ true) names → AllByRecursion (IsAway (without names folder)) names
unfolding IsAway
all_away [] folder there = tt
all_away (name ∷ names) folder there = (
  (names_without name names (with_file name None folder) ∙ names_with name name None folder ∙ there.0, away_still name names (with_file name None folder) (away_one name folder)),
  all_away names (with_file name None folder) (still names there.1),
)
  where
    still : (rest : List (List ℕ)) → AllByRecursion (λ other. has_name other folder ≡ true) rest → AllByRecursion (λ other. has_name other (with_file name None folder) ≡ true) rest
    still [] h = tt
    still (other ∷ rest) h = (names_with other name None folder ∙ h.0, still rest h.1)

pub are_away : (names : List (List ℕ)) (folder : List Held) (trace : Trace) → names_in trace.attached ≡ names → AllByRecursion (λ name. has_name name folder ≡ true) names → AreAway trace (without names folder)
unfolding names_in IsAway
are_away names folder trace same there = by_list trace.attached (subst (AllByRecursion (IsAway (without names folder))) (sym same) (all_away names folder there)) where
  by_list : (files : List NamedBytes) → AllByRecursion (IsAway (without names folder)) (map (λ f. f.name) files) → All (λ f. (has_name f.name (without names folder) ≡ true) × (file_named f.name (without names folder) ≡ None)) files
  by_list [] h k d within = absurd (omega (arith, within))
  by_list (f ∷ files) h zero d within = h.0
  by_list (f ∷ files) h (suc k) d within = by_list files h.1 k d (omega (arith, within))

-- ---- what may be attached

-- a file that is seen is there
pub there_of : (folder : List Held) (name bytes : List ℕ) → contents folder name ≡ Some bytes → has_name name folder ≡ true
there_of [] name bytes had = cc
there_of (held ∷ folder) name bytes had = by_name (bytes_eq held.name name) refl (there_of folder name bytes) where
  by_name : (p : Bool) → bytes_eq held.name name ≡ p → (contents folder name ≡ Some bytes → has_name name folder ≡ true) → has_name name (held ∷ folder) ≡ true
  by_name true e further = or_left (bytes_eq held.name name) (has_name name folder) e
  by_name false e further = or_right (bytes_eq held.name name) (has_name name folder) (further (sym (ap (λ c. option_map seen (cond c held.file (file_named name folder))) e) ∙ had))

pub can_attach_all : (folder : List Held) (names : List (List ℕ)) → AllIdle folder → AllByRecursion (λ name. has_name name folder ≡ true) names → All (CanAttach folder) names
can_attach_all folder [] idle there k d within = absurd (omega (arith, within))
can_attach_all folder (name ∷ names) idle there zero d within = can_attach name folder idle there.0
can_attach_all folder (name ∷ names) idle there (suc k) d within = can_attach_all folder names idle there.1 k d (omega (arith, within))

-- ---- what a store has of them

-- a file of a list, by its number
pub record IsAt (files : List NamedBytes) (number : ℕ) (f : NamedBytes) : Type 0 where
  pub within : number < length files
  pub name : name_of files number ≡ f.name
  pub bytes : bytes_of files number ≡ f.bytes

-- so it is with files from a number on
abbrev pub AreAt : List NamedBytes → ℕ → List NamedBytes → Type 0
AreAt files number [] = Unit {0}
AreAt files number (f ∷ rest) = IsAt files number f × AreAt files (number + 1) rest

abbrev names_of : List NamedBytes → List (List ℕ)
names_of files = map (λ f. f.name) files

abbrev all_of : List NamedBytes → List (List ℕ)
all_of files = map (λ f. f.bytes) files

at_seam : (before : List NamedBytes) (f : NamedBytes) (rest : List NamedBytes) → IsAt (before ++ f ∷ rest) (length before) f
at_seam before f rest = record {
  within = omega (arith, length-append before (f ∷ rest));
  name =
      ap (λ names. slice_index_or names (length before) []) (map-append (λ (x : NamedBytes). x.name) before (f ∷ rest))
      ∙ ap (λ n. slice_index_or (names_of before ++ f.name ∷ names_of rest) n []) (sym (length-map before (λ (x : NamedBytes). x.name))) ∙ get_or-append_seam (names_of before) f.name (names_of rest) [];
  bytes =
      ap (λ all. slice_index_or all (length before) []) (map-append (λ (x : NamedBytes). x.bytes) before (f ∷ rest))
      ∙ ap (λ n. slice_index_or (all_of before ++ f.bytes ∷ all_of rest) n []) (sym (length-map before (λ (x : NamedBytes). x.bytes))) ∙ get_or-append_seam (all_of before) f.bytes (all_of rest) [];
}

are_at : (before rest files : List NamedBytes) → files ≡ before ++ rest → AreAt files (length before) rest
are_at before [] files same = tt
are_at before (f ∷ rest) files same = (
  subst (λ all. IsAt all (length before) f) (sym same) (at_seam before f rest),
  subst (λ n. AreAt files n rest) (length-append before (f ∷ [])) (are_at (before ++ f ∷ []) rest files (same ∙ sym (append_assoc before (f ∷ []) rest))),
)

pub each_at : (files : List NamedBytes) → AreAt files 0 files
each_at files = are_at [] files files refl

-- ---- a folder whose files were attached anew

pub same_anew : (names : List (List ℕ)) (folder : List Held) → AreAnew names folder folder
same_anew names [] = tt
same_anew names (held ∷ folder) = (anew.untouched, same_anew names folder)

later_name : (names : List (List ℕ)) (held later : Held) → IsAnew names held later → later.name ≡ held.name
later_name names held _ anew.untouched = refl
later_name names held _ (anew.attached file among there) = refl

-- one more of the names
module _ (names : List (List ℕ)) (name : List ℕ) (among : is_among name names ≡ true) where
  again : (held later : Held) (file : File) → bytes_eq held.name name ≡ true → held.file ≡ Some file → IsAnew names held later → IsAnew names held (record later { file = Some (fresh (seen file)) })
  again held _ file e had anew.untouched = anew.attached file (ap (λ n. is_among n names) (same_name held.name name e) ∙ among) had
  again held _ file e had (anew.attached other known there) = anew.attached file known had

  pub one_anew : (folder now : List Held) (file : File) → file_named name folder ≡ Some file → AreAnew names folder now → AreAnew names folder (with_file name (Some (fresh (seen file))) now)
  one_anew [] [] file had h = tt
  one_anew [] (later ∷ now) file had h = absurd h
  one_anew (held ∷ folder) [] file had h = absurd h
  one_anew (held ∷ folder) (later ∷ now) file had h = by_name (bytes_eq held.name name) refl (one_anew folder now file) where
    eq_later : bytes_eq later.name name ≡ bytes_eq held.name name
    eq_later = ap (λ n. bytes_eq n name) (later_name names held later h.0)

    by_name : (p : Bool) → bytes_eq held.name name ≡ p → (file_named name folder ≡ Some file → AreAnew names folder now → AreAnew names folder (with_file name (Some (fresh (seen file))) now))
        → AreAnew names (held ∷ folder) (with_file name (Some (fresh (seen file))) (later ∷ now))
    by_name true e further =
        subst (λ p. AreAnew names (held ∷ folder) (cond p (record later { file = Some (fresh (seen file)) } ∷ now) (later ∷ with_file name (Some (fresh (seen file))) now))) (sym (eq_later ∙ e))
        (again held later file e (sym (ap (λ c. cond c held.file (file_named name folder)) e) ∙ had) h.0, h.1)
    by_name false e further =
        subst (λ p. AreAnew names (held ∷ folder) (cond p (record later { file = Some (fresh (seen file)) } ∷ now) (later ∷ with_file name (Some (fresh (seen file))) now))) (sym (eq_later ∙ e))
        (h.0, further (sym (ap (λ c. cond c held.file (file_named name folder)) e) ∙ had) h.1)

-- all of them: a store to which nothing was done comes back
module _ (names : List (List ℕ)) (folder : List Held) (idle : AllIdle folder) where
  abbrev pub trace : Trace
  trace = attached_trace names folder

  fresh_at : (number : ℕ) → file_of trace number ≡ fresh (bytes_of trace.attached number)
  unfolding file_of
  fresh_at number = refl

  pub back_anew : (i : ℕ) (rest : List (List ℕ)) (now : List Held) → AllByRecursion (λ name. is_among name names ≡ true) rest → AllByRecursion (λ name. has_name name folder ≡ true) rest
      → AreAt trace.attached i (map (λ name. record { name = name; bytes = seen_named name folder }) rest)
      → AreAnew names folder now → AreAnew names folder (back_from i (map (λ name. record { name = name; bytes = seen_named name folder }) rest) trace now)
  back_anew i [] now among there at h = h
  back_anew i (name ∷ rest) now among there at h =
      let c = can_attach name folder idle there.0 in
      let is : file_of trace i ≡ fresh (seen c.0) = fresh_at i ∙ ap fresh (at.0.bytes ∙ ap (λ o. unwrap_or (option_map seen o) []) c.1) in
      back_anew (i + 1) rest _ among.1 there.1 at.1 (subst (λ f. AreAnew names folder (with_file name (Some f) now)) (sym is) (one_anew names name among.0 folder now c.0 c.1 h))

pub among_all : (names : List (List ℕ)) → AllByRecursion (λ name. is_among name names ≡ true) names
among_all names = further names names (λ name h. h)
  where
    further : (rest all : List (List ℕ)) → ((name : List ℕ) → is_among name rest ≡ true → is_among name all ≡ true) → AllByRecursion (λ name. is_among name all ≡ true) rest
    further [] all h = tt
    further (name ∷ rest) all h =
        (h name (or_left (bytes_eq name name) (is_among name rest) (is_itself name)), further rest all (λ other k. h other (or_right (bytes_eq name other) (is_among other rest) k)))

pub names_attached : (names : List (List ℕ)) (folder : List Held) → map (λ (f : NamedBytes). f.name) (attached_trace names folder).attached ≡ names
names_attached [] folder = refl
names_attached (name ∷ names) folder = ap (λ rest. name ∷ rest) (names_attached names folder)

pub all_back : (names : List (List ℕ)) (folder : List Held) → AllIdle folder → NoneTwice names → AllByRecursion (λ name. has_name name folder ≡ true) names
    → AreAnew names folder (given_back (attached_trace names folder) (without names folder))
unfolding names_in
all_back names folder idle once there =
    let t = attached_trace names folder in
    let over : given_back t (without names folder) ≡ given_back t folder =
    ap (λ ns. back_from 0 t.attached t (without ns folder)) (sym (names_attached names folder)) ∙ back_over 0 t.attached t folder (subst NoneTwice (sym (names_attached names folder)) once) in
    subst (AreAnew names folder) (sym over) (back_anew names folder idle 0 names folder (among_all names) there (each_at t.attached) (same_anew names folder))

-- ---- what that leaves

pub anew_contents : (names : List (List ℕ)) (folder now : List Held) → AreAnew names folder now → (name : List ℕ) → contents now name ≡ contents folder name
anew_contents names [] [] h name = refl
anew_contents names [] (later ∷ now) h name = absurd h
anew_contents names (held ∷ folder) [] h name = absurd h
anew_contents names (held ∷ folder) (later ∷ now) h name = by_held later h.0 (anew_contents names folder now h.1 name)
  where
    by_held : (later : Held) → IsAnew names held later → contents now name ≡ contents folder name → contents (later ∷ now) name ≡ contents (held ∷ folder) name
    by_held _ anew.untouched rest = by_name (bytes_eq held.name name) refl where
      by_name : (p : Bool) → bytes_eq held.name name ≡ p → contents (held ∷ now) name ≡ contents (held ∷ folder) name
      by_name true e = rw e refl
      by_name false e = rw e rest
    by_held _ (anew.attached file among had) rest = by_name (bytes_eq held.name name) refl where
      by_name : (p : Bool) → bytes_eq held.name name ≡ p → contents (record held { file = Some (fresh (seen file)) } ∷ now) name ≡ contents (held ∷ folder) name
      by_name true e = rw e (sym (ap (option_map seen) had))
      by_name false e = rw e rest

pub anew_idle : (names : List (List ℕ)) (folder now : List Held) → AreAnew names folder now → AllIdle folder → AllIdle now
anew_idle names [] [] h idle = idle
anew_idle names [] (later ∷ now) h idle = absurd h
anew_idle names (held ∷ folder) [] h idle = absurd h
anew_idle names (held ∷ folder) (later ∷ now) h idle = by_place (anew_idle names folder now h.1 (rest_idle held folder idle))
  where
    by_held : (later : Held) → IsAnew names held later → (file : File) × (later.file ≡ Some file) × (is_synced file ≡ true)
    by_held _ anew.untouched = idle zero held (omega arith)
    by_held _ (anew.attached file among had) = (fresh (seen file), refl, refl)

    by_place : AllIdle now → AllIdle (later ∷ now)
    by_place rest zero d within = by_held later h.0
    by_place rest (suc k) d within = rest k d (omega (arith, within))

-- what a read gives of a synced file is what a crash leaves
pub seen_image : (attached : List ℕ) (ops : List Op) → is_synced_after ops ≡ true → IsImageAfter attached ops (seen_after attached ops)
seen_image attached [] synced = refl
seen_image attached (Write at bytes ∷ older) synced = cc
seen_image attached (Tear at meant left ∷ older) synced = cc
seen_image attached (Grow len ∷ older) synced = cc
seen_image attached (Sync ∷ older) synced = refl
seen_image attached (Seal ∷ older) synced = seen_image attached older synced

module _ (may : List ℕ → Type 0) (names : List (List ℕ)) (all : (name : List ℕ) → is_among name names ≡ true → may name) where
  safe_file : (first held later : Held) (own : File) → held.file ≡ Some own → is_synced own ≡ true → IsSafeFile may first held → IsAnew names held later → IsSafeFile may first later
  safe_file first held _ own own_is synced safe anew.untouched = safe
  safe_file first _ _ own own_is synced untouched (anew.attached file among had) =
      touched file (fresh (seen file)) (all first.name among) had (λ long image is. subst (StaysLike OpensAlike (seen file)) (sym is) (alike_itself (seen file), omega arith))
  safe_file first _ _ own own_is synced (touched before after m had images) (anew.attached file among had_later) =
      let same : own ≡ file = same_Some own file (sym own_is ∙ had_later) in
      let here : after ≡ file = same_Some after file had_later in
      touched before (fresh (seen file)) m had (λ long image is.
      subst (StaysLike OpensAlike (seen before)) (sym is) (images long (seen file) (subst (λ f. IsFileImage f (seen file)) (sym here) (seen_image file.attached file.ops (subst (λ f. is_synced f ≡ true) same synced)))))

  pub anew_safe : (base folder now : List Held) → AllIdle folder → AreSafe may base folder → AreAnew names folder now → AreSafe may base now
  anew_safe [] [] [] idle safe h = tt
  anew_safe [] [] (later ∷ now) idle safe h = absurd h
  anew_safe [] (held ∷ folder) now idle safe h = absurd safe
  anew_safe (first ∷ base) [] now idle safe h = absurd safe
  anew_safe (first ∷ base) (held ∷ folder) [] idle safe h = absurd h
  anew_safe (first ∷ base) (held ∷ folder) (later ∷ now) idle safe h =
      let own = idle zero held (omega arith) in
      (safe_file first held later own.0 own.1 own.2 safe.0 h.0, anew_safe base folder now (rest_idle held folder idle) safe.1 h.1)

-- ---- files of a chain

pub opened_there : (folder : List Held) (files : List LinkedFile) → AreOpened (contents folder) files → AllByRecursion (λ name. has_name name folder ≡ true) (chains.names_of files)
opened_there folder [] h = tt
opened_there folder (file ∷ files) h = (there_of folder file.name h.0.bytes h.0.there, opened_there folder files h.1)
