-- The pages that a merge keeps turn the child of a session that is served.
use Rattle.std.proofs.Common.{◌≡◌, ◌==◌, ℕ, suc, ◌-◌, Bool, false, cond, List, [], ◌∷◌, ◌++◌, length, map, sym, ap, subst, ◌∙◌, arith, ne_eqb}
use Rattle.std.specs.Prelude.{Option, Some, None, IfSome, slice_index_or}
use Rattle.vhdx_format.specs.declared.log_entry.Page.{Page}
use Rattle.store_model.specs.Disk.{WhereTold}
use Rattle.store_model.specs.Trace.{Trace}
use Rattle.table_pages.specs.declared.tables.TableParts.{TableParts}
use Rattle.chain_model.specs.Images.{Placed}
use Rattle.layer_session.specs.FileLayers.{FileTurns, HasFile, HaveFiles, table_parts}
use Rattle.layer_session.specs.Keeping.{Serves}
use Rattle.layer_session.specs.Updating.{TurnsInto}
use Rattle.layer_session.specs.declared.file.Layer.{Layer}
use Rattle.layer_session.specs.declared.file_layer.FileLayer.{FileLayer}
use Rattle.layer_session.specs.declared.file_layer.FileLayer.TheVariants.{Session}
use Rattle.chain_core.specs.Sessions.{child_layer}
use Rattle.chain_core.specs.States.{Relinks, child_of, child_parts}
use Rattle.layer_session.proofs.Equal.{some_same}

not_first : (n : ℕ) → (suc n == 0) ≡ false
not_first n = ne_eqb (suc n) 0 (λ e. absurd (omega arith))

parts_behind : (leaf : Layer) (layers : List FileLayer) (n : ℕ) → child_parts (Some leaf) layers (suc n) ≡ slice_index_or (map (λ l. Some (table_parts l)) layers) n None
parts_behind leaf layers n =
    ap (λ (b : Bool). cond b (Some leaf.tables.parts) (slice_index_or (map (λ l. Some (table_parts l)) layers) (suc n - 1) None)) (not_first n)
    ∙ ap (λ (k : ℕ). slice_index_or (map (λ l. Some (table_parts l)) layers) k None) (let e : suc n - 1 ≡ n = omega arith in e)

layer_behind : (leaf : Layer) (layers : List FileLayer) (n : ℕ) → child_layer (Some leaf) layers (suc n) ≡ slice_index_or (map (λ l. Some l) layers) n None
layer_behind leaf layers n =
    ap (λ (b : Bool). cond b (Some (Session leaf)) (slice_index_or (map (λ l. Some l) layers) (suc n - 1) None)) (not_first n)
    ∙ ap (λ (k : ℕ). slice_index_or (map (λ l. Some l) layers) k None) (let e : suc n - 1 ≡ n = omega arith in e)

module _ (t : Trace) (pages : List Page) (parts : TableParts) (target : Placed) where
  turned_by : (l : FileLayer) (x : Placed) → HasFile l t x → table_parts l ≡ parts → Relinks parts.bat_len pages x target → FileTurns l pages t
  turned_by l x has is r = record {
    file = x;
    ties = r.ties;
    region = r.region;
    has = has;
    into = subst (λ (p : TableParts). TurnsInto p.bat_len pages x r.ties r.region) (sym is) r.into;
  }

  -- the last of some files, the first of which is x
  last_turned : (x : Placed) (xs rest : List Placed) (layers : List FileLayer) → HaveFiles layers t ((x ∷ xs) ++ rest) → slice_index_or (map (λ l. Some (table_parts l)) layers) (length xs) None ≡ Some parts
      → Relinks parts.bat_len pages (child_of x xs) target → IfSome (slice_index_or (map (λ l. Some l) layers) (length xs) None) (λ l. FileTurns l pages t)
  last_turned x [] rest [] have is r = absurd have
  last_turned x [] rest (l ∷ layers) have is r = turned_by l x have.0 (some_same {x = (table_parts l)} {y = parts} is) r
  last_turned x (y ∷ xs) rest [] have is r = absurd have
  last_turned x (y ∷ xs) rest (l ∷ layers) have is r = last_turned y xs rest layers have.1 is r

  by_above : (above rest : List Placed) (leaf : Layer) (layers : List FileLayer) (top : Placed) → child_parts (Some leaf) layers (length above) ≡ Some parts → Serves leaf t top → HaveFiles layers t (above ++ rest)
      → Relinks parts.bat_len pages (child_of top above) target → IfSome (child_layer (Some leaf) layers (length above)) (λ l. FileTurns l pages t)
  by_above [] rest leaf layers top is serves have r = turned_by (Session leaf) top serves (some_same {x = leaf.tables.parts} {y = parts} is) r
  by_above (x ∷ xs) rest leaf layers top is serves have r =
      subst (λ o. IfSome o (λ l. FileTurns l pages t)) (sym (layer_behind leaf layers (length xs))) (last_turned x xs rest layers have (sym (parts_behind leaf layers (length xs)) ∙ is) r)

  pub child_turns_by : (above rest : List Placed) (place : ℕ) (leaf : Layer) (layers : List FileLayer) (top : Placed) → place ≡ length above → child_parts (Some leaf) layers place ≡ Some parts → Serves leaf t top
      → HaveFiles layers t (above ++ rest) → Relinks parts.bat_len pages (child_of top above) target → IfSome (child_layer (Some leaf) layers place) (λ l. FileTurns l pages t)
  child_turns_by above rest place leaf layers top at is serves have r =
      subst (λ (k : ℕ). IfSome (child_layer (Some leaf) layers k) (λ l. FileTurns l pages t)) (sym at)
      (by_above above rest leaf layers top (subst (λ (k : ℕ). child_parts (Some leaf) layers k ≡ Some parts) at is) serves have r)

-- of each moment that is told
pub some_told : (told : Option Trace) (o : Option FileLayer) (P : FileLayer → Trace → Type 0) → WhereTold told (λ t. IfSome o (λ l. P l t)) → IfSome o (λ l. WhereTold told (P l))
some_told told None P h = tt
some_told told (Some l) P h = h
