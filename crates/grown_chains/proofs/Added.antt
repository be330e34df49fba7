-- Chains stay while files are added to a folder, and while a name is followed.
use Rattle.std.proofs.Common.{◌≡◌, ◌||◌, ℕ, Bool, true, false, cond, List, [], ◌∷◌, ◌++◌, Option, Some, None, Ok, refl, sym, ap, subst, ◌∙◌}
use Rattle.std.specs.Prelude.{option_map}
use Rattle.std.specs.Str.{bytes_eq}
use Rattle.std.proofs.lemmas.Bool.{or_parts}
use Rattle.std.proofs.lemmas.Option.{none-some, same_Some}
use Rattle.store_model.specs.File.{File, seen}
use Rattle.store_model.specs.Folder.{Held, file_named, has_name}
use Rattle.chain_model.specs.Files as model
use Rattle.chain_model.specs.Files.{Files, IsLinked, at_rest}
use Rattle.chain_model.specs.Members.{Member}
use Rattle.chain_model.specs.Members as members
use Rattle.chain_model.proofs.Linking.{both_linked, more_files_link_alike}
use Rattle.link_rules.specs.Effects.{KeepsEach}
use Rattle.link_rules.specs.Folders.{Contents, contents}
use Rattle.link_rules.specs.Laws.{at_rest_all}
use Rattle.link_rules.specs.Touches.{AreSafe, IsSafeFile, touched, untouched}
use Rattle.link_rules.proofs.Alike.{members_alike}
use Rattle.link_rules.proofs.Chained.{links_are_chains, names_same}
use Rattle.make_file.specs.Makes.{HasMade, held_as}
use Rattle.command_base.specs.Folders.{files_of}
use Rattle.command_base.proofs.Lent.{is_itself}
use Rattle.grown_chains.specs.Grown.{FollowingKeeps, KeepsDisks, LinksLead, OneWay, OthersOpenStill}

-- each chain that a name is opened to among some files is the one among others too
abbrev pub KeepsChains : Files → Files → Type 0
KeepsChains files more = (leaf : List ℕ) (retired chain : List Member) → IsLinked files leaf retired chain → IsLinked more leaf retired chain

pub keeps_disks : (folder after : List Held) → KeepsChains (files_of folder) (files_of after) → KeepsDisks folder after
keeps_disks folder after keeps = record {
  opens = λ leaf disk o. record { retired = o.retired; chain = o.chain; linked = keeps leaf o.retired o.chain o.linked; is = o.is };
  leads = λ leaf names l. record { retired = l.retired; chain = l.chain; linked = keeps leaf l.retired l.chain l.linked; are = l.are };
}

-- ---- files at a folder's end

named_still : (name : List ℕ) (folder more : List Held) (file : File) → file_named name folder ≡ Some file → file_named name (folder ++ more) ≡ Some file
named_still name [] more file had = absurd (none-some file had)
named_still name (held ∷ folder) more file had = by_name (bytes_eq held.name name) refl (named_still name folder more file) where
  by_name : (p : Bool) → bytes_eq held.name name ≡ p → (file_named name folder ≡ Some file → file_named name (folder ++ more) ≡ Some file) → file_named name ((held ∷ folder) ++ more) ≡ Some file
  by_name true e further = ap (λ c. cond c held.file (file_named name (folder ++ more))) e ∙ sym (ap (λ c. cond c held.file (file_named name folder)) e) ∙ had
  by_name false e further = ap (λ c. cond c held.file (file_named name (folder ++ more))) e ∙ further (sym (ap (λ c. cond c held.file (file_named name folder)) e) ∙ had)

files_still : (folder more : List Held) (name : List ℕ) (file : model.File) → files_of folder name ≡ Some file → files_of (folder ++ more) name ≡ Some file
files_still folder more name file had = by_file (file_named name folder) refl had where
  by_file : (o : Option File) → file_named name folder ≡ o → option_map at_rest (option_map seen o) ≡ Some file → files_of (folder ++ more) name ≡ Some file
  by_file None e h = absurd (none-some file h)
  by_file (Some f) e h = ap (λ o. option_map at_rest (option_map seen o)) (named_still name folder more f e) ∙ h

pub added_keep : (folder more : List Held) → KeepsChains (files_of folder) (files_of (folder ++ more))
added_keep folder more leaf retired chain linked = more_files_link_alike (files_of folder) (files_of (folder ++ more)) leaf retired chain (files_still folder more) linked

pub others_open_still : OthersOpenStill
others_open_still folder more = keeps_disks folder (folder ++ more) (added_keep folder more)

-- a name that is free has no file, and the file that is added under it is its own
none_named : (name : List ℕ) (folder : List Held) → has_name name folder ≡ false → file_named name folder ≡ None
none_named name [] free = refl
none_named name (held ∷ folder) free =
    let apart = or_parts (bytes_eq held.name name) (has_name name folder) free in
    ap (λ c. cond c held.file (file_named name folder)) apart.0 ∙ none_named name folder apart.1

pub free_of : (name : List ℕ) (folder : List Held) → has_name name folder ≡ false → files_of folder name ≡ None
free_of name folder free = ap (λ o. option_map at_rest (option_map seen o)) (none_named name folder free)

named_last : (name : List ℕ) (folder : List Held) (file : File) → has_name name folder ≡ false → file_named name (folder ++ held_as name file ∷ []) ≡ Some file
named_last name [] file free = ap (λ c. cond c (Some file) None) (is_itself name)
named_last name (held ∷ folder) file free =
    let apart = or_parts (bytes_eq held.name name) (has_name name folder) free in
    ap (λ c. cond c held.file (file_named name (folder ++ held_as name file ∷ []))) apart.0 ∙ named_last name folder file apart.1

module _ (name bytes : List ℕ) (folder after : List Held) (made : HasMade name bytes folder (Some after)) where
  made_is : after ≡ folder ++ held_as name made.file ∷ []
  made_is = same_Some after (folder ++ held_as name made.file ∷ []) made.folder_is

  pub made_there : has_name name folder ≡ false → files_of after name ≡ Some (at_rest bytes)
  made_there free =
      ap (λ f. files_of f name) made_is ∙ ap (λ o. option_map at_rest (option_map seen o)) (named_last name folder made.file free)
      ∙ ap (λ b. Some (at_rest b)) made.bytes_are

  pub made_keeps : KeepsChains (files_of folder) (files_of after)
  made_keeps = subst (λ f. KeepsChains (files_of folder) (files_of f)) (sym made_is) (added_keep folder (held_as name made.file ∷ []))

-- ---- a name that was followed

pub followed_keeps : (old now : Contents) → KeepsEach old now → KeepsChains (at_rest_all old) (at_rest_all now)
followed_keeps old now alike leaf retired chain linked = record {
  there =
      members_alike old (at_rest_all now) (λ name bytes had. let k = alike.each name bytes had in record { now = k.0; there = ap (option_map at_rest) k.1; alike = k.2 })
      (retired ++ chain) linked.there;
  is = linked.is;
}

pub following_keeps : FollowingKeeps
following_keeps leaf folder now follows =
    let f = follows folder refl in
    (f.0, f.1, keeps_disks folder f.0 (followed_keeps (contents folder) (contents f.0) f.2.alike))

later_name : (may : List ℕ → Type 0) (held later : Held) → IsSafeFile may held later → later.name ≡ held.name
later_name may held _ untouched = refl
later_name may held _ (touched before after m had images) = refl

pub names_stay : (may : List ℕ → Type 0) (name : List ℕ) (folder now : List Held) → AreSafe may folder now → has_name name now ≡ has_name name folder
names_stay may name [] [] safe = refl
names_stay may name [] (later ∷ now) safe = absurd safe
names_stay may name (held ∷ folder) [] safe = absurd safe
names_stay may name (held ∷ folder) (later ∷ now) safe =
    ap (λ n. bytes_eq n name || has_name name now) (later_name may held later safe.0) ∙ ap (λ b. bytes_eq held.name name || b) (names_stay may name folder now safe.1)

-- ---- one way

pub one_way : OneWay
one_way files leaf a b x y =
    sym x.are ∙ ap members.names_of (both_linked files leaf x.retired y.retired x.chain y.chain x.linked y.linked).1 ∙ y.are

pub links_lead : LinksLead
links_lead folder leaf linked links =
    let c = links_are_chains (contents folder) leaf linked links in
    record { retired = c.retired; chain = c.chain; linked = c.linked; are = names_same c.chain linked.files c.members }
