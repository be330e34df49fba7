-- The sum of a disk, by its pages, and where a leaf's name leads to it.
use Rattle.std.proofs.Common.{◌≡◌, ◌≤◌, ◌+◌, ℕ, List, [], ◌∷◌, length, take, drop, Option, Some, Result, Ok, Err, refl, sym, ap, ap₂, subst, ◌∙◌, arith}
use Rattle.std.specs.Prelude.{IfOk, min, option_map}
use Rattle.std.proofs.Math.Seq.{take-add}
use Rattle.std.proofs.lemmas.List.{length-take-le, take_min}
use Rattle.store_model.specs.Disk.{Disk as StoreDisk, WhereTold}
use Rattle.store_model.specs.Folder.{Held, Hosted}
use Rattle.store_model.specs.Trace.{Trace}
use Rattle.guest_model.specs.Calls.{Disk, bytes_of}
use Rattle.guest_model.specs.History.{IsSized}
use Rattle.chain_model.specs.Files.{IsIn, at_rest}
use Rattle.chain_model.specs.Images.{members_of}
use Rattle.chain_model.specs.Members.{NoneTwice, disk_of}
use Rattle.chain_model.proofs.Layering.{length-flat}
use Rattle.link_rules.specs.Chains.{Links, names_of}
use Rattle.link_rules.specs.Effects.{HasReplayed, Replays, linked_names}
use Rattle.link_rules.specs.Folders.{AllIdle, contents}
use Rattle.link_rules.specs.Laws.{at_rest_all}
use Rattle.link_rules.specs.declared.linked.Linked.{Linked}
use Rattle.link_rules.specs.declared.linked.LinkedFile.{LinkedFile}
use Rattle.link_rules.proofs.Alike.{members_alike}
use Rattle.link_rules.proofs.Chained.{links_are_chains}
use Rattle.link_rules.proofs.Composing.{replays_keep}
use Rattle.vx_base.specs.declared.parts.Geometry.{Geometry}
use Rattle.load_calls.specs.Printed.{page_sum, sectors_sum}
use Rattle.load_calls.specs.Laws.{PagesAddUp, PagesAreSectors}
use Rattle.command_base.specs.Causes.{AnswersBy, meaning_of_chain}
use Rattle.command_base.specs.Commands.{AreOpened, HasGeometry, LeavesFollowed, LeavesRead, Lends, placed_from}
use Rattle.command_base.specs.declared.refusal.ChainRefusal.{ChainRefusal}
use Rattle.command_base.proofs.Back.{lent_told, placed_are, placed_in, trace_of}
use Rattle.command_base.proofs.Followed.{disk_sectors, last_in, read_no_cause, read_stopped, same_members, then_read}
use Rattle.command_base.proofs.Lent.{each_at}
use Rattle.load_command.specs.Sums.{HasSummed, SumsUp, sum_of, sums}

-- ---- page by page

-- one more page
pub more_page : PagesAreSectors → PagesAddUp → (disk : Disk) (first count sum more : ℕ) (bytes : List ℕ) → first + count ≤ length disk → bytes ≡ bytes_of (take count (drop first disk)) → IsSized 512 (take count (drop first disk)) → sum ≡ sectors_sum 0 (take first disk)
    → more ≡ page_sum first bytes → sum + more ≡ sectors_sum 0 (take (first + count) disk)
more_page pages_are_sectors pages_add_up disk first count sum more bytes within is sized so page =
    let front = take first disk in
    let rest = take count (drop first disk) in
    let place : first ≡ 0 + length front = omega (arith, length-take-le first disk (omega (arith, within))) in
    ap₂ (λ a b. a + b) so (page ∙ ap (page_sum first) is ∙ pages_are_sectors first rest sized ∙ ap (λ n. sectors_sum n rest) place)
    ∙ sym (pages_add_up 0 front rest) ∙ ap (sectors_sum 0) (sym (take-add first count disk))

-- as many as there are, at most
pub take_fewer : {X : Type 0} (n k : ℕ) (xs : List X) → length xs ≡ n → take (min n k) xs ≡ take k xs
take_fewer n k xs long = ap (λ m. take m xs) (let same : min n k ≡ min k n = omega arith in same ∙ ap (min k) (sym long)) ∙ take_min k xs

-- the disk of files has as many sectors as the first one says
pub placed_sectors : (files : List LinkedFile) (geometry : Geometry) (t : Trace) → HasGeometry files geometry → length (disk_of (members_of (placed_from 0 files t))) ≡ geometry.sectors
placed_sectors [] geometry t has = absurd has
placed_sectors (f ∷ files) geometry t has = length-flat f.parts.geometry.sector f.parts.geometry.sectors _ ∙ ap (λ (g : Geometry). g.sectors) has

-- ---- of files that were lent

module _ (files : List LinkedFile) (old mid : Hosted) (lent : StoreDisk) (idle : WhereTold old.folder AllIdle) (once : NoneTwice (names_of files)) (opened : WhereTold old.folder (λ f. AreOpened (contents f) files)) (lends : Lends (names_of files) old mid lent) where
  pub has_summed : {E : Type 0} (geometry : Geometry) (sectors : ℕ) (result : Result ℕ E) → HasGeometry files geometry → sectors ≡ min geometry.sectors 131072
      → IfOk result (λ sum. WhereTold lent.told (λ t. sum ≡ sectors_sum 0 (take sectors (disk_of (members_of (placed_from 0 files t)))))) → IfOk result (λ sum. WhereTold old.folder (λ f. HasSummed (contents f) files sum))
  unfolding sum_of
  has_summed geometry sectors (Err e) has is h = tt
  has_summed geometry sectors (Ok sum) has is h = λ f told.
      let t = trace_of files old mid lent idle once opened lends f in
      let members = members_of (placed_from 0 files t) in
      let are = placed_are (names_of files) f 0 files (each_at t.attached) in
      record {
        members = members;
        there = placed_in (names_of files) f 0 files (each_at t.attached) (opened f told);
        are = are;
        sum_is = h t (lent_told files old mid lent idle once opened lends f told) ∙ ap (λ n. sectors_sum 0 (take n (disk_of members))) is ∙ ap (sectors_sum 0) (take_fewer geometry.sectors 131072 (disk_of members) (disk_sectors members files geometry are has));
      }

-- ---- of a leaf's name

module _ (f g : List Held) (leaf : List ℕ) (linked : Linked) (links : Links (contents f) leaf (Ok linked)) (opened : List (List ℕ)) (replays : Replays opened (contents f) (contents g)) where
  pub summed_of : (sum : ℕ) → HasSummed (contents g) linked.files sum → SumsUp f leaf (Ok sum)
  summed_of sum h =
      let c = links_are_chains (contents f) leaf linked links in
      let keeps = replays_keep opened (contents f) (contents g) replays in
      let there = members_alike (contents f) (at_rest_all (contents g)) (λ name was had. let k = keeps.each name was had in record { now = k.0; there = ap (option_map at_rest) k.1; alike = k.2 }) c.chain (last_in (IsIn (at_rest_all (contents f))) c.retired c.chain c.linked.there) in
      let same = same_members (at_rest_all (contents g)) h.members c.chain linked.files h.there there h.are c.members in
      subst (λ n. SumsUp f leaf (Ok n)) (sym (h.sum_is ∙ ap (λ ms. sum_of (disk_of ms)) same)) (sums (disk_of c.chain) (record { retired = c.retired; chain = c.chain; linked = c.linked; is = refl }))

-- whatever came of reading
pub sum_answer : (f : List Held) (leaf : List ℕ) (mid new : Hosted) (result : Result ℕ ChainRefusal) → IfOk result (λ sum. SumsUp f leaf (Ok sum)) → LeavesRead mid new result → AnswersBy meaning_of_chain (SumsUp f leaf) result
sum_answer f leaf mid new (Ok sum) ok left = ok
sum_answer f leaf mid new (Err refusal) ok left = read_no_cause (SumsUp f leaf) mid new (meaning_of_chain refusal) left

pub sum_leaves : (leaf : List ℕ) (linked : Linked) (old mid new : Hosted) (links : WhereTold old.folder (λ f. Links (contents f) leaf (Ok linked))) → HasReplayed (linked_names linked) old mid → (result : Result ℕ ChainRefusal) → LeavesRead mid new result
    → LeavesFollowed meaning_of_chain leaf old new result
sum_leaves leaf linked old mid new links before (Ok sum) left = then_read leaf linked old links mid before new left
sum_leaves leaf linked old mid new links before (Err refusal) left = read_stopped leaf linked old links mid before new (meaning_of_chain refusal) left

pub ok_sum : (f g : List Held) (leaf : List ℕ) (linked : Linked) → Links (contents f) leaf (Ok linked) → (opened : List (List ℕ)) → Replays opened (contents f) (contents g) → (result : Result ℕ ChainRefusal) → IfOk result (HasSummed (contents g) linked.files)
    → IfOk result (λ sum. SumsUp f leaf (Ok sum))
ok_sum f g leaf linked links opened replays (Ok sum) h = summed_of f g leaf linked links opened replays sum h
ok_sum f g leaf linked links opened replays (Err refusal) h = tt

-- where the folder is told
pub ok_told : {A E : Type 0} (P : A → List Held → Type 0) (now : Option (List Held)) (result : Result A E) → IfOk result (λ x. WhereTold now (P x)) → (g : List Held) → now ≡ Some g → IfOk result (λ x. P x g)
ok_told P now (Ok x) h g told = h g told
ok_told P now (Err e) h g told = tt
