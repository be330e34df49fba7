-- What stands once a leaf's name was followed to its chain.
use Rattle.std.proofs.Common.{◌≡◌, ◌≤◌, ℕ, true, false, List, [], ◌∷◌, ◌++◌, length, Option, Some, None, Result, Ok, Err, refl, sym, ap, subst, ◌∙◌, arith}
use Rattle.std.specs.Prelude.{option_map}
use Rattle.std.specs.List.{AllByRecursion}
use Rattle.std.specs.Str.{bytes_eq}
use Rattle.std.proofs.lemmas.Bool.{or_left, or_right}
use Rattle.std.proofs.lemmas.List.{map-append}
use Rattle.std.proofs.lemmas.Slice.Eq.{bytes_eq-Decides}
use Rattle.std.proofs.lemmas.Option.{none-some, same_Some}
use Rattle.store_model.specs.Disk.{WhereTold}
use Rattle.store_model.specs.Folder.{Held, Hosted}
use Rattle.guest_model.specs.Calls.{Disk}
use Rattle.chain_model.specs.Files.{HasParts, IsLinked, IsWhole, OpensTo, at_rest}
use Rattle.chain_model.specs.Members.{Member}
use Rattle.chain_model.specs.Members as model
use Rattle.chain_model.proofs.Linking.{both_linked}
use Rattle.chain_model.proofs.NewFiles.{parts_stand}
use Rattle.file_open.proofs.Again.{opens_again}
use Rattle.vhdx_format.proofs.FileLemmas.{stands_once}
use Rattle.link_rules.specs.Chains.{Links, LeafIs, ParentsAre, is_among, names_of}
use Rattle.link_rules.specs.Chains as chains
use Rattle.link_rules.specs.Effects.{IsKept, Replays, linked_names, replayed, untouched}
use Rattle.link_rules.specs.Folders.{Contents, contents}
use Rattle.link_rules.specs.Laws.{IsTheChain, at_rest_all}
use Rattle.link_rules.specs.declared.linked.Linked.{Linked}
use Rattle.link_rules.specs.declared.linked.LinkedFile.{LinkedFile}
use Rattle.link_rules.specs.declared.retired.Found.{Found}
use Rattle.link_rules.proofs.Alike.{members_alike}
use Rattle.link_rules.proofs.Chained.{links_are_chains, names_same}
use Rattle.link_rules.proofs.Composing.{replays_keep}
use Rattle.link_rules.proofs.OneLinking.{one_linking}
use Rattle.merge_plan.specs.Attached.{BeginsInUse}
use Rattle.command_base.specs.Folders.{files_of}
use Rattle.steps_command.specs.Sessions.{IsChainIn, IsFollowedTo, LeadsWhole, first_of, leaf_name}
use Rattle.command_base.proofs.Followed.{opened_after, same_files}

-- ---- the leaf isn't retired

same_found : (a b : Found) → (let r : Result Found chains.Refusal = Ok a in r) ≡ Ok b → a ≡ b
same_found a b e = cc

leaf_in_use : (files : Contents) (retired : List (List ℕ)) (name : List ℕ) (result : Result Found chains.Refusal) → LeafIs files retired name result → (found : Found) → result ≡ Ok found → found.leaf.parts.retired ≡ None
leaf_in_use files _ _ _ (chains.unopened retired name refusal opens) found e = cc
leaf_in_use files _ _ _ (chains.in_use retired name parts opens none) found e = subst (λ (x : Found). x.leaf.parts.retired ≡ None) (same_found _ found e) none
leaf_in_use files _ _ _ (chains.loop retired name parts next opens is among) found e = cc
leaf_in_use files _ _ _ (chains.further retired name parts next result opens is apart rest) found e = leaf_in_use files _ next result rest found e

begins_in_use : (files : Contents) (retired : List (List ℕ)) (above : List LinkedFile) (child : LinkedFile) (result : Result (List LinkedFile) chains.Refusal) → ParentsAre files retired above child result → child.parts.retired ≡ None
    → (found : List LinkedFile) → result ≡ Ok found → BeginsInUse found
begins_in_use files retired _ _ _ (chains.alone above child h) none found e = subst BeginsInUse (same_files (child ∷ []) found e) none
begins_in_use files retired _ _ _ (chains.refused above child refusal h) none found e = cc
begins_in_use files retired _ _ _ (chains.further above child next (Err refusal) h rest) none found e = cc
begins_in_use files retired _ _ _ (chains.further above child next (Ok others) h rest) none found e = subst BeginsInUse (same_files (child ∷ others) found e) none

pub in_use : (files : Contents) (leaf : List ℕ) (linked : Linked) → Links files leaf (Ok linked) → BeginsInUse linked.files
in_use files leaf _ (chains.linked found chain leads down) = begins_in_use files found.retired [] found.leaf (Ok chain) down (leaf_in_use files [] leaf (Ok found) leads found refl) chain refl

-- ---- files whose logs were replayed are no shorter than what they settle to

module _ (files now : Contents) (opened : List (List ℕ)) (replays : Replays opened files now) where
  replayed_whole : (m : Member) → is_among m.name opened ≡ true → IsWhole (at_rest_all now) m
  replayed_whole m among file there held parts reads = by_bytes (files m.name) refl
    where
      by_kept : (bytes : List ℕ) → (later : List ℕ) × (now m.name ≡ Some later) × IsKept opened m.name bytes later → length held ≤ length file.bytes
      by_kept bytes (later, has, untouched apart) = let never : true ≡ false = sym among ∙ apart in cc
      by_kept bytes (later, has, replayed _ known stands) =
          let same : at_rest later ≡ file = same_Some (at_rest later) file (sym (ap (option_map at_rest) has) ∙ there) in
          let own : later ≡ held = stands_once later later held (opens_again bytes later stands).stays (parts_stand later held parts (subst (λ f. HasParts f held parts) (sym same) reads)) in
          subst (λ f. length held ≤ length f.bytes) same (subst (λ h. length h ≤ length later) own (omega arith))

      by_bytes : (was : Option (List ℕ)) → files m.name ≡ was → length held ≤ length file.bytes
      by_bytes None e = absurd (none-some file (sym (ap (option_map at_rest) (replays.none m.name e)) ∙ there))
      by_bytes (Some bytes) e = by_kept bytes (replays.each m.name bytes e)

  each_whole : (members : List Member) → ((name : List ℕ) → is_among name (model.names_of members) ≡ true → is_among name opened ≡ true) → AllByRecursion (IsWhole (at_rest_all now)) members
  each_whole [] all = tt
  each_whole (m ∷ members) all = (
    replayed_whole m (all m.name (or_left (bytes_eq m.name m.name) (is_among m.name (model.names_of members)) ((bytes_eq-Decides m.name m.name).1 refl))),
    each_whole members (λ name among. all name (or_right (bytes_eq m.name name) (is_among name (model.names_of members)) among)),
  )

-- ---- the chain among the replayed files

module _ (leaf : List ℕ) (linked : Linked) (old mid : Hosted) (h : IsFollowedTo leaf linked old mid) where
  pub name_is : leaf_name linked ≡ leaf
  name_is = ap first_of h.up.begins.is

  same_linked_ : (a b : Linked) → (let r : Result Linked chains.Refusal = Ok a in r) ≡ Ok b → a ≡ b
  same_linked_ a b e = cc

  pub one_linked : (f : List Held) → old.folder ≡ Some f → (other : Linked) → Links (contents f) leaf (Ok other) → linked ≡ other
  one_linked f told other also = same_linked_ linked other (one_linking (contents f) leaf (Ok linked) (Ok other) (h.links f told) also)

  pub told_mid : (f : List Held) → old.folder ≡ Some f → (g : List Held) × (mid.folder ≡ Some g) × Replays (linked_names linked) (contents f) (contents g)
  told_mid f told = h.replayed.files f told

  module _ (f g : List Held) (replays : Replays (linked_names linked) (contents f) (contents g)) where
    links_still : (retired chain : List Member) → IsLinked (files_of f) leaf retired chain → IsLinked (files_of g) leaf retired chain
    links_still retired chain is =
        let keeps = replays_keep (linked_names linked) (contents f) (contents g) replays in
        record {
          there = members_alike (contents f) (at_rest_all (contents g)) (λ name was had. let k = keeps.each name was had in record { now = k.0; there = ap (option_map at_rest) k.1; alike = k.2 }) (retired ++ chain) is.there;
          is = is.is;
        }

    pub opens_still : (disk : Disk) → OpensTo (files_of f) leaf disk → OpensTo (files_of g) leaf disk
    opens_still disk o = record { retired = o.retired; chain = o.chain; linked = links_still o.retired o.chain o.linked; is = o.is }

    chain_still : Links (contents f) leaf (Ok linked) → IsTheChain (contents g) leaf linked
    chain_still links =
        let c = links_are_chains (contents f) leaf linked links in
        record { retired = c.retired; chain = c.chain; linked = links_still c.retired c.chain c.linked; names = c.names; members = c.members }

    whole_still : Links (contents f) leaf (Ok linked) → LeadsWhole (files_of g) leaf (names_of linked.files)
    whole_still links retired chain is =
        let c = chain_still links in
        let both = both_linked (files_of g) leaf retired c.retired chain c.chain is c.linked in
        let names : model.names_of (c.retired ++ c.chain) ≡ linked_names linked =
        map-append (λ (m : Member). m.name) c.retired c.chain ∙ ap (λ ns. ns ++ model.names_of c.chain) c.names ∙ ap (λ ns. linked.retired ++ ns) (names_same c.chain linked.files c.members) in
        let same : c.retired ++ c.chain ≡ retired ++ chain = ap (λ r. r ++ c.chain) (sym both.0) ∙ ap (λ x. retired ++ x) (sym both.1) in (
          ap model.names_of both.1 ∙ names_same c.chain linked.files c.members,
          subst (AllByRecursion (IsWhole (files_of g))) same
              (each_whole (contents f) (contents g) (linked_names linked) replays (c.retired ++ c.chain) (λ name among. subst (λ ns. is_among name ns ≡ true) names among)),
        )

  pub opens_mid : (f g : List Held) → old.folder ≡ Some f → mid.folder ≡ Some g → (disk : Disk) → OpensTo (files_of f) leaf disk → OpensTo (files_of g) (leaf_name linked) disk
  opens_mid f g told also disk opens =
      let m = told_mid f told in
      subst (λ n. OpensTo (files_of g) n disk) (sym name_is) (opens_still f g (subst (λ x. Replays (linked_names linked) (contents f) (contents x)) (same_Some m.0 g (sym m.1 ∙ also)) m.2) disk opens)

  told_first : (g : List Held) → mid.folder ≡ Some g → (f : List Held) × (old.folder ≡ Some f) × Replays (linked_names linked) (contents f) (contents g)
  told_first g told = by_folder old.folder refl
    where
      by_folder : (folder : Option (List Held)) → old.folder ≡ folder → (f : List Held) × (old.folder ≡ Some f) × Replays (linked_names linked) (contents f) (contents g)
      by_folder None e = let never : None ≡ Some g = sym (h.replayed.untold e) ∙ told in cc
      by_folder (Some f) e =
          let m = h.replayed.files f e in
          (f, e, subst (λ x. Replays (linked_names linked) (contents f) (contents x)) (same_Some m.0 g (sym m.1 ∙ told)) m.2)

  pub chain_in : WhereTold mid.folder (IsChainIn linked)
  chain_in g told =
      let f = told_first g told in
      record {
        opened = opened_after (contents f.0) (contents g) leaf linked (h.links f.0 f.1) f.2;
        in_use = in_use (contents f.0) leaf linked (h.links f.0 f.1);
        chain = subst (λ n. IsTheChain (contents g) n linked) (sym name_is) (chain_still f.0 g f.2 (h.links f.0 f.1));
        whole = subst (λ n. LeadsWhole (files_of g) n (names_of linked.files)) (sym name_is) (whole_still f.0 g f.2 (h.links f.0 f.1));
      }
