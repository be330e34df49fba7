-- What a crash leaves of a folder is linked as the folder was.
use Rattle.std.proofs.Common.{◌≡◌, ℕ, zero, Bool, true, false, cond, List, [], ◌∷◌, ◌++◌, length, ◌≤◌, Option, Some, None, Ok, refl, sym, ap, subst, ◌∙◌, arith}
use Rattle.std.specs.Prelude.{option_map}
use Rattle.std.specs.List.{AllByRecursion}
use Rattle.std.specs.Str.{bytes_eq}
use Rattle.std.proofs.lemmas.Option.{none-some, same_Some}
use Rattle.store_model.specs.File.{File, IsFileImage, is_synced, seen}
use Rattle.store_model.specs.Folder.{Held, IsFolderImage, file_named}
use Rattle.store_model.specs.Trace.{NamedBytes}
use Rattle.store_model.proofs.Images.{images-synced_after}
use Rattle.vx_base.specs.declared.parts.Parts.{Parts}
use Rattle.vhdx_format.specs.OpenedFiles.{OpensFile}
use Rattle.file_open.specs.Effects.{IsLongEnough, OpensAlike, StaysLike}
use Rattle.file_open.specs.Opening.{Opens, opened}
use Rattle.chain_model.specs.Files.{Files, HasParts, IsIn, IsWhole, at_rest, files_in}
use Rattle.chain_model.specs.Members.{Member}
use Rattle.vhdx_format.proofs.FileLemmas.{stands_once}
use Rattle.chain_model.proofs.Linking.{whole_by}
use Rattle.chain_model.proofs.NewFiles.{opened_parts, parts_opened, parts_stand}
use Rattle.link_rules.specs.Folders.{AllIdle, Contents, contents}
use Rattle.link_rules.specs.Laws.{ImagesOpenAlike, at_rest_all}
use Rattle.link_rules.specs.Touches.{AreSafe, IsOnWay, IsSafeFile, touched, untouched}
use Rattle.link_rules.proofs.Composing.{alike_itself}
use Rattle.link_rules.proofs.Lent.{rest_idle, same_name}

-- a file that opens as one that had these bytes
pub record AlikeIn (more : Files) (name bytes : List ℕ) : Type 0 where
  pub now : List ℕ
  pub there : more name ≡ Some (at_rest now)
  pub alike : OpensAlike bytes now

-- ---- a folder's image

module _ (may : List ℕ → Type 0) (name bytes : List ℕ) (long : may name → IsLongEnough bytes) where
  kept_name : (held later : Held) → IsSafeFile may held later → later.name ≡ held.name
  kept_name held _ untouched = refl
  kept_name held _ (touched before after m had images) = refl

  head_alike : (held later : Held) → bytes_eq held.name name ≡ true → (first : File) → held.file ≡ Some first → is_synced first ≡ true → seen first ≡ bytes → IsSafeFile may held later
      → (g : File) → later.file ≡ Some g → (image : List ℕ) → IsFileImage g image → StaysLike OpensAlike bytes image
  head_alike held _ e first first_is synced seen_is untouched g g_is image here =
      let same : first ≡ g = same_Some first g (sym first_is ∙ g_is) in
      subst (StaysLike OpensAlike bytes) (sym (images-synced_after first.attached first.ops image synced (subst (λ f. IsFileImage f image) (sym same) here) ∙ seen_is)) (alike_itself bytes, omega arith)
  head_alike held _ e first first_is synced seen_is (touched before after m had images) g g_is image here =
      let same : before ≡ first = same_Some before first (sym had ∙ first_is) in
      let is : seen before ≡ bytes = ap seen same ∙ seen_is in
      subst (λ b. StaysLike OpensAlike b image) is
      (images (subst IsLongEnough (sym is) (long (subst may (same_name held.name name e) m))) image (subst (λ f. IsFileImage f image) (sym (same_Some after g g_is)) here))

  -- it stands there, opened alike and no shorter
  abbrev StaysIn : Files → Type 0
  StaysIn more = (a : AlikeIn more name bytes) × (length bytes ≤ length a.now)

  image_alike : (folder now : List Held) (image : List NamedBytes) → AllIdle folder → AreSafe may folder now → IsFolderImage now image → contents folder name ≡ Some bytes → StaysIn (files_in image)
  image_alike [] now image idle safe is had = absurd (none-some bytes had)
  image_alike (held ∷ folder) [] image idle safe is had = absurd safe
  image_alike (held ∷ folder) (later ∷ now) [] idle safe is had = absurd is
  image_alike (held ∷ folder) (later ∷ now) (f ∷ image) idle safe is had = by_name (bytes_eq held.name name) refl (image_alike folder now image (rest_idle held folder idle) safe.1 is.2) where
    first_name : f.name ≡ held.name
    first_name = is.0 ∙ kept_name held later safe.0

    by_name : (b : Bool) → bytes_eq held.name name ≡ b → (contents folder name ≡ Some bytes → StaysIn (files_in image)) → StaysIn (files_in (f ∷ image))
    by_name true e further =
        let own = idle zero held (omega arith) in
        let seen_is : seen own.0 ≡ bytes = same_Some (seen own.0) bytes (sym (ap (option_map seen) own.1) ∙ sym (ap (λ c. option_map seen (cond c held.file (file_named name folder))) e) ∙ had) in
        let g = is.1.0 in
        let stays = head_alike held later e own.0 own.1 own.2 seen_is safe.0 g is.1.1 f.bytes is.1.2 in
        (record { now = f.bytes; there = ap (λ c. cond c (Some (at_rest f.bytes)) (files_in image name)) (ap (λ n. bytes_eq n name) first_name ∙ e); alike = stays.0 }, stays.1)
    by_name false e further =
        let found = further (sym (ap (λ c. option_map seen (cond c held.file (file_named name folder))) e) ∙ had) in
        let rest = found.0 in
        (record { now = rest.now; there = ap (λ c. cond c (Some (at_rest f.bytes)) (files_in image name)) (ap (λ n. bytes_eq n name) first_name ∙ e) ∙ rest.there; alike = rest.alike }, found.1)

-- ---- members of a chain

pub file_opened : (bytes : List ℕ) (parts : Parts) → Opens bytes (Ok parts) → OpensFile bytes (Ok parts)
file_opened bytes parts (opened _ h) = h

pub parts_alike : (bytes now held : List ℕ) (parts : Parts) → OpensAlike bytes now → HasParts (at_rest bytes) held parts → HasParts (at_rest now) held parts
parts_alike bytes now held parts alike has =
    opened_parts now held parts (file_opened now parts (alike.opens (Ok parts) (opened parts (parts_opened bytes held parts has)))) (alike.stands held (parts_stand bytes held parts has))

module _ (files : Contents) (more : Files) (alike : (name bytes : List ℕ) → files name ≡ Some bytes → AlikeIn more name bytes) where
  member_alike : (member : Member) → IsIn (at_rest_all files) member → IsIn more member
  member_alike member is = by_file (files member.name) refl
    where
      by_file : (file : Option (List ℕ)) → files member.name ≡ file → IsIn more member
      by_file None e = absurd (none-some is.file (sym (ap (option_map at_rest) e) ∙ is.there))
      by_file (Some bytes) e =
          let a = alike member.name bytes e in
          let same : at_rest bytes ≡ is.file = same_Some (at_rest bytes) is.file (sym (ap (option_map at_rest) e) ∙ is.there) in
          record {
            file = at_rest a.now;
            there = a.there;
            held = is.held;
            parts = is.parts;
            reads = parts_alike bytes a.now is.held is.parts a.alike (subst (λ f. HasParts f is.held is.parts) (sym same) is.reads);
            ties = is.ties;
            layer = is.layer;
          }

  pub members_alike : (members : List Member) → AllByRecursion (IsIn (at_rest_all files)) members → AllByRecursion (IsIn more) members
  members_alike [] h = tt
  members_alike (member ∷ members) h = (member_alike member h.0, members_alike members h.1)

-- ---- of files that are no shorter than what they settle to

pub long_enough : (bytes held : List ℕ) (parts : Parts) → HasParts (at_rest bytes) held parts → length held ≤ length bytes → IsLongEnough bytes
long_enough bytes held parts has long other stands = subst (λ b. length b ≤ length bytes) (stands_once bytes held other (parts_stand bytes held parts has) stands) long

module _ (may : List ℕ → Type 0) (folder now : List Held) (image : List NamedBytes) (idle : AllIdle folder) (safe : AreSafe may folder now) (is : IsFolderImage now image) where
  member_stays : (member : Member) → IsIn (at_rest_all (contents folder)) member → IsWhole (at_rest_all (contents folder)) member → IsIn (files_in image) member × IsWhole (files_in image) member
  member_stays member m whole = by_file (contents folder member.name) refl
    where
      by_file : (file : Option (List ℕ)) → contents folder member.name ≡ file → IsIn (files_in image) member × IsWhole (files_in image) member
      by_file None e = absurd (none-some m.file (sym (ap (option_map at_rest) e) ∙ m.there))
      by_file (Some bytes) e =
          let here : at_rest_all (contents folder) member.name ≡ Some (at_rest bytes) = ap (option_map at_rest) e in
          let same : at_rest bytes ≡ m.file = same_Some (at_rest bytes) m.file (sym here ∙ m.there) in
          let has : HasParts (at_rest bytes) m.held m.parts = subst (λ f. HasParts f m.held m.parts) (sym same) m.reads in
          let long : length m.held ≤ length bytes = whole (at_rest bytes) here m.held m.parts has in
          let found = image_alike may member.name bytes (λ touched. long_enough bytes m.held m.parts has long) folder now image idle safe is e in
          let a = found.0 in
          let reads : HasParts (at_rest a.now) m.held m.parts = parts_alike bytes a.now m.held m.parts a.alike has in (
            record { file = at_rest a.now; there = a.there; held = m.held; parts = m.parts; reads = reads; ties = m.ties; layer = m.layer },
            whole_by (files_in image) member (at_rest a.now) m.held m.parts a.there reads (let longer = found.1 in omega (arith, long, longer)),
          )

  members_stay : (members : List Member) → AllByRecursion (IsIn (at_rest_all (contents folder))) members → AllByRecursion (IsWhole (at_rest_all (contents folder))) members
      → AllByRecursion (IsIn (files_in image)) members × AllByRecursion (IsWhole (files_in image)) members
  members_stay [] there whole = (tt, tt)
  members_stay (member ∷ members) there whole =
      let first = member_stays member there.0 whole.0 in
      let rest = members_stay members there.1 whole.1 in
      ((first.0, rest.0), (first.1, rest.1))

pub images_alike : ImagesOpenAlike
images_alike folder now image leaf retired chain idle safe is whole linked =
    let stay = members_stay (IsOnWay (contents folder) leaf) folder now image idle safe is (retired ++ chain) linked.there whole in
    (record { there = stay.0; is = linked.is }, stay.1)
