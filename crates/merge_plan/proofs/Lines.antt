-- Files of a line, and the locators that link them.
use Rattle.std.proofs.Common.{◌≡◌, ℕ, false, List, [], ◌∷◌, ◌++◌, Some, Ok, sym, ap, subst, ◌∙◌, inl, inr}
use Rattle.vx_base.specs.Fields.{IsBytes, IsGuid}
use Rattle.vhdx_format.specs.declared.locator.Pair.{Pair}
use Rattle.vhdx_format.specs.Fields.{is_zero_id}
use Rattle.vhdx_format.specs.Locators.{KeepRules, locator_bytes, parent_name, read_locator}
use Rattle.vhdx_format.specs.Relinking.{IsReadBack, LinksTwice, Relinks, linked_twice, relinked}
use Rattle.vhdx_format.proofs.RelinkedRead.{locators_keep, relinked_are_read}
use Rattle.vhdx_format.proofs.RelinkedValues.{links_twice, relinks}
use Rattle.link_rules.specs.Lines.{IsFollowedBy, IsLine}
use Rattle.link_rules.specs.declared.linked.LinkedFile.{LinkedFile}
use Rattle.chain_model.specs.Members.{IsParentOf, Member}
use Rattle.merge_plan.specs.Merging.{HasLocator, IsKnownBy, KeepsLinks, MergeFiles, locator_pairs, pairs_or_none, relinked_pairs, twice_pairs}
use Rattle.merge_plan.specs.Steps.{AreBytes, AreTyped, HasSoundLocator}

-- the lower part of a line is one
line_below : (above : List LinkedFile) (file : LinkedFile) (others : List LinkedFile) → IsLine (above ++ file ∷ others) → IsLine (file ∷ others)
line_below [] file others h = h
line_below (a ∷ []) file others h = h.1
line_below (a ∷ b ∷ above) file others h = line_below (b ∷ above) file others h.1

-- the files of a merge follow one another
pub record AreFollowed (m : MergeFiles) : Type 0 where
  pub child : IsFollowedBy m.child m.source
  pub source : IsFollowedBy m.source m.target

pub are_followed : (files : List LinkedFile) (m : MergeFiles) → IsLine files → files ≡ m.above ++ m.child ∷ m.source ∷ m.target ∷ m.below → AreFollowed m
are_followed files m line is =
    let h = line_below m.above m.child (m.source ∷ m.target ∷ m.below) (subst IsLine is line) in
    record { child = h.0; source = h.1.0 }

pub sound_locator : (file parent : LinkedFile) → IsFollowedBy file parent → HasSoundLocator file.parts
sound_locator file parent f = record { item = f.names.item; locator = f.names.locator; pairs = f.pairs; read = f.names.read }

-- ---- a locator that was read

module _ (file parent : LinkedFile) (f : IsFollowedBy file parent) where
  are : locator_pairs file.parts.locator ≡ f.pairs
  are = ap locator_pairs f.names.locator ∙ ap pairs_or_none f.names.read

  keep : KeepRules (locator_pairs file.parts.locator)
  keep = subst KeepRules (sym are) (locators_keep f.names.item f.pairs f.names.read)

  named : parent_name (locator_pairs file.parts.locator) ≡ Some parent.name
  named = ap parent_name are ∙ f.names.named

  bytes : AreBytes file.parts.locator → IsBytes f.names.item
  bytes h = subst AreBytes f.names.locator h

-- ---- with the new ones the links are kept

-- the pairs of a file that is linked to another by the identifier that was found and by a new one
abbrev pub both_pairs : LinkedFile → LinkedFile → List ℕ → List Pair
both_pairs source target new = linked_twice target.parts.header.data_write new (locator_pairs source.parts.locator)

-- a file that is linked twice to the one that it is followed by
module _ (source target : LinkedFile) (new : List ℕ) (f : IsFollowedBy source target) (item : AreBytes source.parts.locator) (id : IsGuid target.parts.header.data_write) (guid : IsGuid new) (nonzero : is_zero_id new ≡ false) where
  links : LinksTwice target.parts.header.data_write new (locator_pairs source.parts.locator)
  links = links_twice target.parts.header.data_write new (locator_pairs source.parts.locator) (keep source target f).linked id guid nonzero

  pub both_read : IsReadBack (both_pairs source target new)
  both_read =
      subst (λ (ps : List Pair). IsReadBack (linked_twice target.parts.header.data_write new ps)) (sym (are source target f))
      (relinked_are_read.twice f.names.item target.parts.header.data_write new f.pairs (bytes source target f item) f.names.read id guid nonzero)

  module _ (read : read_locator (locator_bytes (both_pairs source target new)) ≡ Ok (both_pairs source target new)) where
    pub by_found : (x y : Member) → HasLocator source (both_pairs source target new) x → IsKnownBy target target.parts.header.data_write y → IsParentOf x y
    by_found x y l k = record {
      has = l.parent;
      item = locator_bytes (both_pairs source target new);
      locator = l.locator;
      pairs = both_pairs source target new;
      read = read;
      named = links.named ∙ named source target f ∙ ap (λ n. Some n) (sym k.name);
      linked = inl (links.first ∙ ap (λ i. Some i) (sym k.id_is));
      geometry = k.geometry ∙ f.geometry ∙ sym l.geometry;
    }

    pub by_new : (x y : Member) → HasLocator source (both_pairs source target new) x → IsKnownBy target new y → IsParentOf x y
    by_new x y l k = record {
      has = l.parent;
      item = locator_bytes (both_pairs source target new);
      locator = l.locator;
      pairs = both_pairs source target new;
      read = read;
      named = links.named ∙ named source target f ∙ ap (λ n. Some n) (sym k.name);
      linked = inr (links.other ∙ ap (λ i. Some i) (sym k.id_is));
      geometry = k.geometry ∙ f.geometry ∙ sym l.geometry;
    }

-- source and child of a merge inside a chain
module _ (m : MergeFiles) (new : List ℕ) (f : AreFollowed m) (typed : AreTyped m.child m.source m.target) (guid : IsGuid new) (nonzero : is_zero_id new ≡ false) where
  relinks_once : Relinks new m.target.name (locator_pairs m.child.parts.locator)
  relinks_once = relinks new m.target.name (locator_pairs m.child.parts.locator) (keep m.child m.source f.child).linked guid typed.name typed.text

  pub twice_read : IsReadBack (twice_pairs m new)
  twice_read = both_read m.source m.target new f.source typed.source_item typed.id guid nonzero

  pub once_read : IsReadBack (relinked_pairs m new)
  once_read =
      subst (λ (ps : List Pair). IsReadBack (relinked new m.target.name ps)) (sym (are m.child m.source f.child))
      (relinked_are_read.once f.child.names.item new m.target.name f.child.pairs (bytes m.child m.source f.child typed.child_item) f.child.names.read guid typed.name typed.text)

  pub keeps_links : read_locator (locator_bytes (twice_pairs m new)) ≡ Ok (twice_pairs m new) → read_locator (locator_bytes (relinked_pairs m new)) ≡ Ok (relinked_pairs m new) → KeepsLinks m new
  keeps_links twice once = record {
    found = by_found m.source m.target new f.source typed.source_item typed.id guid nonzero twice;
    renewed = by_new m.source m.target new f.source typed.source_item typed.id guid nonzero twice;
    past = λ child target l k. record {
      has = l.parent;
      item = locator_bytes (relinked_pairs m new);
      locator = l.locator;
      pairs = relinked_pairs m new;
      read = once;
      named = relinks_once.named ∙ ap (λ n. Some n) (sym k.name);
      linked = inl (relinks_once.first ∙ ap (λ i. Some i) (sym k.id_is));
      geometry = k.geometry ∙ f.source.geometry ∙ f.child.geometry ∙ sym l.geometry;
    };
  }
