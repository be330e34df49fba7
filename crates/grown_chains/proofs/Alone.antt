-- New files as members of chains: one by itself, and one on top of others.
use Rattle.std.proofs.Common.{◌≡◌, ◌≢◌, ℕ, ◌<◌, false, List, [], ◌∷◌, length, replicate, Option, Some, None, refl, sym, ap, ◌∙◌, arith}
use Rattle.std.specs.List.{AllByRecursion}
use Rattle.std.specs.Option.{option_or}
use Rattle.std.proofs.lemmas.List.{ext_get_or, get_or-replicate, length-replicate}
use Rattle.vx_base.specs.declared.parts.Geometry.{Geometry}
use Rattle.vx_base.specs.declared.parts.Parts.{Parts}
use Rattle.vx_base.specs.Fields.{zeros}
use Rattle.vhdx_format.specs.FileParts.{shape_of}
use Rattle.vhdx_format.specs.MadeLaws.{OpensAs}
use Rattle.vhdx_format.proofs.LayerLemmas.{layer_by_sector}
use Rattle.guest_model.specs.History.{sector_at}
use Rattle.chain_model.specs.Files.{Files, IsIn, IsLinked, at_rest, layer_in}
use Rattle.chain_model.specs.Layers.{Layer, flat, through}
use Rattle.chain_model.specs.Members.{IsParentOf, Member, disk_of, layers_of, names_of, ties_of}
use Rattle.chain_model.proofs.Layering.{flat_same, length-flat, one_file}
use Rattle.chain_model.proofs.NewFiles.{opened_parts}

-- what a file that holds what it stands for is in a chain
abbrev pub member_of : List ℕ → List ℕ → Parts → Member
member_of name file parts = record { name = name; ties = ties_of parts; layer = layer_in file parts }

module _ (files : Files) (name file : List ℕ) (parts : Parts) (sector : ℕ → Option (List ℕ)) (opens : OpensAs file parts sector) (there : files name ≡ Some (at_rest file)) where
  own_in : IsIn files (member_of name file parts)
  own_in = record { file = at_rest file; there = there; held = file; parts = parts; reads = opened_parts file file parts opens.opens opens.stands; ties = refl; layer = λ s. refl }

  pub own_layer : (s : ℕ) → s < parts.geometry.sectors → layer_in file parts s ≡ sector s
  own_layer s inside = (layer_by_sector (shape_of parts) file).at_sector s None inside ∙ opens.layer s inside

  -- a file without a parent, which isn't retired, is a chain
  pub linked_alone : parts.parent ≡ false → parts.retired ≡ None → IsLinked files name [] (member_of name file parts ∷ [])
  linked_alone base used = record {
    there = (own_in, tt);
    is = record { named = refl; leads = used; linked = base; once = (tt, tt); few = omega arith };
  }

  -- one whose parent is the first file of a chain that hasn't its name is one on top of that
  pub linked_above : (parent : Member) (below : List Member) → parts.retired ≡ None → IsParentOf (member_of name file parts) parent → IsLinked files parent.name [] (parent ∷ below)
      → AllByRecursion (λ other. other ≢ name) (names_of (parent ∷ below)) → length (parent ∷ below) < 64 → IsLinked files name [] (member_of name file parts ∷ parent ∷ below)
  linked_above parent below used is_parent linked apart few = record {
    there = (own_in, linked.there);
    is = record { named = refl; leads = used; linked = (is_parent, linked.is.linked); once = (apart, linked.is.once); few = omega (arith, few) };
  }

-- ---- their disks

-- a base of zeros
pub zeros_disk : (z n : ℕ) (base : Layer) → ((s : ℕ) → s < n → base s ≡ Some (zeros z)) → flat z n (base ∷ []) ≡ replicate n (zeros z)
zeros_disk z n base owns = ext_get_or [] (flat z n (base ∷ [])) (replicate n (zeros z)) (length-flat z n (base ∷ []) ∙ sym (length-replicate n (zeros z))) each where
  each : (s : ℕ) → s < length (flat z n (base ∷ [])) → sector_at (flat z n (base ∷ [])) s ≡ sector_at (replicate n (zeros z)) s
  each s h =
      let inside : s < n = omega (arith, length-flat z n (base ∷ [])) in
      one_file z n base s (zeros z) inside (owns s inside) ∙ sym (get_or-replicate n s (zeros z) [] inside)

-- a file that owns nothing leaves the disk below it
pub disk_above : (name file : List ℕ) (parts : Parts) (parent : Member) (below : List Member) → parent.ties.geometry ≡ parts.geometry → ((s : ℕ) → s < parts.geometry.sectors → layer_in file parts s ≡ None)
    → disk_of (member_of name file parts ∷ parent ∷ below) ≡ disk_of (parent ∷ below)
disk_above name file parts parent below geometry owns =
    flat_same parts.geometry.sector parts.geometry.sectors (layers_of (member_of name file parts ∷ parent ∷ below)) (layers_of (parent ∷ below))
    (λ s inside. ap (λ o. option_or o (through (layers_of (parent ∷ below)) s)) (owns s inside))
    ∙ sym (ap (λ (g : Geometry). flat g.sector g.sectors (layers_of (parent ∷ below))) geometry)
