-- A folder to which a store's files came back: which file stands under each name, and what a crash leaves of it.
use Rattle.std.proofs.Common.{◌≡◌, ◌≢◌, ◌||◌, ℕ, zero, suc, ◌+◌, ◌<◌, Bool, true, false, cond, List, [], ◌∷◌, length, map, Option, Some, None, refl, sym, ap, subst, ◌∙◌, arith}
use Rattle.std.specs.Prelude.{option_map}
use Rattle.std.specs.List.{AllByRecursion}
use Rattle.std.specs.Str.{bytes_eq}
use Rattle.std.proofs.lemmas.Option.{same_Some}
use Rattle.store_model.specs.File.{File, IsFileImage, seen}
use Rattle.store_model.specs.Folder.{Held, IsFolderImage, back_from, bytes_named, file_named, has_name, with_file}
use Rattle.store_model.specs.Trace.{NamedBytes, Trace, bytes_of, file_of}
use Rattle.store_model.proofs.Images.{images-synced_after}
use Rattle.torn_match.specs.TornMatches.{HasNoTornMatch}
use Rattle.chain_model.specs.Files as model
use Rattle.chain_model.specs.Files.{at_rest, files_in}
use Rattle.chain_model.specs.Images.{IsCleanImage}
use Rattle.chain_model.specs.Members.{NoneTwice}
use Rattle.link_rules.specs.Folders.{AllIdle, contents}
use Rattle.link_rules.specs.Laws.{at_rest_all}
use Rattle.link_rules.proofs.Lent.{can_attach, same_name}
use Rattle.steps_command.specs.Crashes.{HaveNoTornMatch}
use Rattle.command_base.proofs.Lent.{names_in, names_with, there_of}

-- ---- files by their names

named_with : (name : List ℕ) (file : Option File) (folder : List Held) → has_name name folder ≡ true → file_named name (with_file name file folder) ≡ file
named_with name file [] there = cc
named_with name file (held ∷ folder) there = by_name (bytes_eq held.name name) refl (named_with name file folder) where
  by_name : (p : Bool) → bytes_eq held.name name ≡ p → (has_name name folder ≡ true → file_named name (with_file name file folder) ≡ file) → file_named name (with_file name file (held ∷ folder)) ≡ file
  by_name true e further = rw (e, e) refl
  by_name false e further = rw (e, e) (further (sym (ap (λ b. b || has_name name folder) e) ∙ there))

named_beside : (name other : List ℕ) (file : Option File) (folder : List Held) → other ≢ name → file_named name (with_file other file folder) ≡ file_named name folder
named_beside name other file [] apart = refl
named_beside name other file (held ∷ folder) apart = by_names (bytes_eq held.name other) (bytes_eq held.name name) refl refl (named_beside name other file folder apart) where
  by_names : (p q : Bool) → bytes_eq held.name other ≡ p → bytes_eq held.name name ≡ q → file_named name (with_file other file folder) ≡ file_named name folder → file_named name (with_file other file (held ∷ folder)) ≡ file_named name (held ∷ folder)
  by_names true true e f rest = absurd (apart (sym (same_name held.name other e) ∙ same_name held.name name f))
  by_names true false e f rest = rw (e, f) refl
  by_names false true e f rest = rw (e, f) refl
  by_names false false e f rest = rw (e, f) rest

-- files came back under their names, the first with this number
abbrev pub AreBack : ℕ → List NamedBytes → Trace → List Held → Type 0
AreBack i [] trace now = Unit {0}
AreBack i (f ∷ files) trace now = (file_named f.name now ≡ Some (file_of trace i)) × AreBack (i + 1) files trace now

-- a file of another name stays
pub back_beside : (name : List ℕ) (i : ℕ) (files : List NamedBytes) (trace : Trace) (folder : List Held) → AllByRecursion (λ other. other ≢ name) (names_in files) → file_named name (back_from i files trace folder) ≡ file_named name folder
unfolding names_in
back_beside name i [] trace folder apart = refl
back_beside name i (f ∷ files) trace folder apart =
    back_beside name (i + 1) files trace (with_file f.name (Some (file_of trace i)) folder) apart.1 ∙ named_beside name f.name (Some (file_of trace i)) folder apart.0

still_there : (name : List ℕ) (file : Option File) (folder : List Held) (names : List (List ℕ)) → AllByRecursion (λ other. has_name other folder ≡ true) names → AllByRecursion (λ other. has_name other (with_file name file folder) ≡ true) names
still_there name file folder [] there = tt
still_there name file folder (other ∷ names) there = (names_with other name file folder ∙ there.0, still_there name file folder names there.1)

pub are_back : (i : ℕ) (files : List NamedBytes) (trace : Trace) (folder : List Held) → NoneTwice (names_in files) → AllByRecursion (λ name. has_name name folder ≡ true) (names_in files) → AreBack i files trace (back_from i files trace folder)
unfolding names_in
are_back i [] trace folder once there = tt
are_back i (f ∷ files) trace folder once there =
    let next = with_file f.name (Some (file_of trace i)) folder in (
      back_beside f.name (i + 1) files trace next once.0 ∙ named_with f.name (Some (file_of trace i)) folder there.0,
      are_back (i + 1) files trace next once.1 (still_there f.name (Some (file_of trace i)) folder (names_in files) there.1),
    )

-- ---- a folder's image, by names

-- what an image has under a name is what a crash leaves of this file
pub record IsImageOf (name : List ℕ) (file : File) (image : List NamedBytes) : Type 0 where
  pub left : IsFileImage file (bytes_named name image)
  pub whole : HasNoTornMatch file (bytes_named name image)
  pub there : files_in image name ≡ Some (at_rest (bytes_named name image))

pub image_named : (name : List ℕ) (file : File) (folder : List Held) (image : List NamedBytes) → IsFolderImage folder image → HaveNoTornMatch folder image → file_named name folder ≡ Some file → IsImageOf name file image
image_named name file [] [] left whole had = cc
image_named name file [] (f ∷ image) left whole had = absurd left
image_named name file (held ∷ folder) [] left whole had = absurd left
image_named name file (held ∷ folder) (f ∷ image) left whole had = by_name (bytes_eq held.name name) refl (image_named name file folder image left.2 whole.1) where
  own : (p : Bool) → bytes_eq held.name name ≡ p → bytes_eq f.name name ≡ p
  own p e = ap (λ n. bytes_eq n name) left.0 ∙ e

  by_name : (p : Bool) → bytes_eq held.name name ≡ p → (file_named name folder ≡ Some file → IsImageOf name file image) → IsImageOf name file (f ∷ image)
  by_name true e further =
      let here : held.file ≡ Some file = sym (ap (λ c. cond c held.file (file_named name folder)) e) ∙ had in
      let same : left.1.0 ≡ file = same_Some left.1.0 file (sym left.1.1 ∙ here) in
      let bytes : bytes_named name (f ∷ image) ≡ f.bytes = ap (λ c. cond c f.bytes (bytes_named name image)) (own true e) in
      record {
        left = subst (IsFileImage file) (sym bytes) (subst (λ x. IsFileImage x f.bytes) same left.1.2);
        whole = subst (HasNoTornMatch file) (sym bytes) (whole.0 file here);
        there = ap (λ c. cond c (Some (at_rest f.bytes)) (files_in image name)) (own true e) ∙ ap (λ b. Some (at_rest b)) (sym bytes);
      }
  by_name false e further =
      let rest = further (sym (ap (λ c. cond c held.file (file_named name folder)) e) ∙ had) in
      let bytes : bytes_named name (f ∷ image) ≡ bytes_named name image = ap (λ c. cond c f.bytes (bytes_named name image)) (own false e) in
      record {
        left = subst (IsFileImage file) (sym bytes) rest.left;
        whole = subst (HasNoTornMatch file) (sym bytes) rest.whole;
        there = ap (λ c. cond c (Some (at_rest f.bytes)) (files_in image name)) (own false e) ∙ rest.there ∙ ap (λ b. Some (at_rest b)) (sym bytes);
      }

-- the files of some names alone
pub restricted : List (List ℕ) → List NamedBytes → List NamedBytes
restricted names image = map (λ name. record { name = name; bytes = bytes_named name image }) names

module _ (trace : Trace) (now : List Held) (image : List NamedBytes) (left : IsFolderImage now image) (whole : HaveNoTornMatch now image) where
  -- file by file, the first with this number
  IsBackImage : ℕ → List ℕ → Type 0
  IsBackImage i bytes = IsFileImage (file_of trace i) bytes × HasNoTornMatch (file_of trace i) bytes

  each_back : (i : ℕ) (files : List NamedBytes) → AreBack i files trace now → (j : ℕ) → j < length files → IsBackImage (i + j) (bytes_of (restricted (names_in files) image) j)
  unfolding names_in restricted IsBackImage
  each_back i [] back j within = absurd (omega (arith, within))
  each_back i (f ∷ files) back zero within =
      let is = image_named f.name (file_of trace i) now image left whole back.0 in
      let same : i ≡ i + 0 = omega arith in
      (subst (λ n. IsFileImage (file_of trace n) (bytes_named f.name image)) same is.left, subst (λ n. HasNoTornMatch (file_of trace n) (bytes_named f.name image)) same is.whole)
  each_back i (f ∷ files) back (suc j) within =
      let same : (i + 1) + j ≡ i + suc j = omega arith in
      let rest = each_back (i + 1) files back.1 j (omega (arith, within)) in
      let bytes = bytes_of (restricted (names_in files) image) j in
      (subst (λ n. IsFileImage (file_of trace n) bytes) same rest.0, subst (λ n. HasNoTornMatch (file_of trace n) bytes) same rest.1)

  names_restricted : (names : List (List ℕ)) → map (λ (f : NamedBytes). f.name) (restricted names image) ≡ names
  unfolding restricted
  names_restricted [] = refl
  names_restricted (name ∷ names) = ap (λ rest. name ∷ rest) (names_restricted names)

  none_more : (file : ℕ) → 0 + file ≡ file
  none_more file = omega arith

  pub clean_image : AreBack 0 trace.attached trace now → IsCleanImage trace (restricted (names_in trace.attached) image)
  unfolding names_in IsBackImage
  clean_image back = record {
    left = record {
      names = names_restricted (names_in trace.attached);
      each = λ file within. subst (λ n. IsFileImage (file_of trace n) (bytes_of (restricted (names_in trace.attached) image) file)) (none_more file) (each_back 0 trace.attached back file within).0;
    };
    whole = λ file within. subst (λ n. HasNoTornMatch (file_of trace n) (bytes_of (restricted (names_in trace.attached) image) file)) (none_more file) (each_back 0 trace.attached back file within).1;
  }

  -- what is among them is in the image
  pub all_named : (i : ℕ) (files : List NamedBytes) → AreBack i files trace now → AllByRecursion (λ name. files_in image name ≡ Some (at_rest (bytes_named name image))) (names_in files)
  unfolding names_in
  all_named i [] back = tt
  all_named i (f ∷ files) back = ((image_named f.name (file_of trace i) now image left whole back.0).there, all_named (i + 1) files back.1)

pub in_image : (image : List NamedBytes) (names : List (List ℕ)) → AllByRecursion (λ name. files_in image name ≡ Some (at_rest (bytes_named name image))) names
    → (name : List ℕ) (file : model.File) → files_in (restricted names image) name ≡ Some file → files_in image name ≡ Some file
unfolding restricted
in_image image [] all name file had = cc
in_image image (n ∷ names) all name file had = by_name (bytes_eq n name) refl (in_image image names all.1 name file) where
  by_name : (p : Bool) → bytes_eq n name ≡ p → (files_in (restricted names image) name ≡ Some file → files_in image name ≡ Some file) → files_in image name ≡ Some file
  by_name true e rest = ap (files_in image) (sym (same_name n name e)) ∙ all.0 ∙ sym (ap (λ c. cond c (Some (at_rest (bytes_named n image))) (files_in (restricted names image) name)) e) ∙ had
  by_name false e rest = rest (sym (ap (λ c. cond c (Some (at_rest (bytes_named n image))) (files_in (restricted names image) name)) e) ∙ had)

pub of_names : (image : List NamedBytes) (outer : List ℕ) (names : List (List ℕ)) → AllByRecursion (λ n. n ≢ outer) names → (name : List ℕ) (file : model.File) → files_in (restricted names image) name ≡ Some file → name ≢ outer
unfolding restricted
of_names image outer [] apart name file had = cc
of_names image outer (n ∷ names) apart name file had = by_name (bytes_eq n name) refl (of_names image outer names apart.1 name file) where
  by_name : (p : Bool) → bytes_eq n name ≡ p → (files_in (restricted names image) name ≡ Some file → name ≢ outer) → name ≢ outer
  by_name true e rest = λ same. apart.0 (same_name n name e ∙ same)
  by_name false e rest = rest (sym (ap (λ c. cond c (Some (at_rest (bytes_named n image))) (files_in (restricted names image) name)) e) ∙ had)

-- ---- a file that didn't go away

-- a crash leaves of a file of which nothing is unsynced what a read gives
pub kept_in_image : (folder now : List Held) (name : List ℕ) (file : model.File) (image : List NamedBytes) → AllIdle folder → file_named name now ≡ file_named name folder → IsFolderImage now image → HaveNoTornMatch now image
    → at_rest_all (contents folder) name ≡ Some file → files_in image name ≡ Some file
kept_in_image folder now name file image idle same left whole had = by_bytes (contents folder name) refl where
  by_bytes : (o : Option (List ℕ)) → contents folder name ≡ o → files_in image name ≡ Some file
  by_bytes None e = let never : None ≡ Some file = sym (ap (option_map at_rest) e) ∙ had in cc
  by_bytes (Some bytes) e =
      let c = can_attach name folder idle (there_of folder name bytes e) in
      let is = image_named name c.0 now image left whole (same ∙ c.1) in
      let read : bytes_named name image ≡ seen c.0 = images-synced_after c.0.attached c.0.ops (bytes_named name image) c.2 is.left in
      is.there ∙ ap (λ b. Some (at_rest b)) read ∙ sym (ap (λ o. option_map at_rest (option_map seen o)) c.1) ∙ had
