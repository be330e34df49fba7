-- Once its phases are done a session with a merge is served, where a store may tell its content or not.
use Rattle.std.proofs.Common.{◌≡◌, ℕ, ◌+◌, true, false, List, [], ◌∷◌, ◌++◌, length, refl, sym}
use Rattle.std.specs.Prelude.{Option, Some, None, IfSome, nat_lt, is_some}
use Rattle.vhdx_format.specs.declared.log_entry.Page.{Page}
use Rattle.store_model.specs.Disk.{Disk, WhereBothTold, WhereTold}
use Rattle.store_model.specs.File.{is_synced, seen}
use Rattle.store_model.specs.Trace.{Trace, file_of}
use Rattle.link_rules.specs.declared.linked.LinkedFile.{LinkedFile}
use Rattle.layer_session.specs.ReadOnly.{IsRead}
use Rattle.layer_session.specs.Unnamed.{NamesNoLog}
use Rattle.layer_session.specs.declared.file.Layer.{Layer}
use Rattle.layer_session.specs.declared.file_layer.FileLayer.{FileLayer}
use Rattle.layer_session.specs.declared.file_layer.FileLayer.TheVariants.{Read, Session}
use Rattle.layer_session.specs.declared.read_layer.ReadLayer.{ReadLayer}
use Rattle.merge_core.specs.Copied.{marks_of}
use Rattle.meta_edit.specs.Pages.{ArePages}
use Rattle.merge_plan.specs.Merging.{GivesLocator, KeepsLinks, MergeFiles, child_place, relinked_pairs, source_place}
use Rattle.merge_plan.specs.declared.drawing.LogIds.{LogIds}
use Rattle.merge_plan.specs.declared.drawing.MergeIds.{MergeIds}
use Rattle.merge_plan.specs.declared.merge.Merge.{Merge}
use Rattle.chain_core.specs.MergeStarting.{ServesMerge, StartsMerge, behind_first, chain_files, data_session, leaf_of, log_session, session_of, source_in, target_place}
use Rattle.chain_core.specs.Starting.{AreReadOf}
use Rattle.merge_plan.specs.Attached.{CanStart}
use Rattle.chain_core.specs.declared.layers.Layers.{Layers}
use Rattle.chain_core.specs.declared.layers.Underway.{Underway}
use Rattle.chain_core.proofs.Numbers.{from_one, up_to_last, up_to_next, up_to_second}
use Rattle.chain_core.proofs.MergeChild.{leaf_only}
use Rattle.chain_core.proofs.MergeFound.{AreFound}
use Rattle.chain_core.proofs.MergePhases.{AtEnd}
use Rattle.chain_core.proofs.MergeServed.{Front, child_relinks, front_inner, front_leaf, serves_merge}
use Rattle.chain_core.proofs.MergeTold.{are_found, told_from}
use Rattle.layer_session.proofs.Equal.{false_true, true_false}

-- the pages of the child, built of it as it was found
pub record HasRelink (m : MergeFiles) (ids : MergeIds) (relink : List Page) (t : Trace) : Type 0 where
  pub found : AreFound t m
  pub gives : GivesLocator m.child.parts (seen (file_of t (child_place m))) (relinked_pairs m ids.target.data_write) relink

-- the files above the source, by whether the child is the leaf
front_is : (above : List LinkedFile) (child source target : LinkedFile) (below : List LinkedFile) (ids : MergeIds) (pages relink : List Page) (inner : Option LogIds) (leaf target_layer : Layer) (l : Option Layer) (reads : List FileLayer) (t0 now : Trace)
    → ids.child ≡ inner → is_some inner ≡ nat_lt 0 (length above) → is_some l ≡ is_some inner
    → HasRelink (record { above = above; child = child; source = source; target = target; below = below }) ids relink t0
    → KeepsLinks (record { above = above; child = child; source = source; target = target; below = below }) ids.target.data_write → ArePages child.parts relink
    → leaf.tables.parts.bat_len ≡ (leaf_of (record { above = above; child = child; source = source; target = target; below = below })).parts.bat_len → IfSome l (λ (x : Layer). x.tables.parts.bat_len ≡ child.parts.bat_len)
    → AreReadOf 1 (behind_first above) reads
    → AtEnd t0 (record { above = above; child = child; source = source; target = target; below = below }) ids pages inner leaf target_layer l now
    → Front t0 now (record { above = above; child = child; source = source; target = target; below = below }) ids pages relink leaf (reads ++ session_of l)
front_is [] child source target below ids pages relink (Some inner) leaf target_layer l reads t0 now is some both has links are table tables of e = absurd (let never : true ≡ false = some in true_false never)
front_is [] child source target below ids pages relink None leaf target_layer (Some l) reads t0 now is some both has links are table tables of e = absurd (let never : true ≡ false = both in true_false never)
front_is [] child source target below ids pages relink None leaf target_layer None (x ∷ reads) t0 now is some both has links are table tables of e = absurd of
front_is [] child source target below ids pages relink None leaf target_layer None [] t0 now is some both has links are table tables of e =
    front_leaf t0 now child source target below ids pages relink leaf
    (child_relinks t0 now (record { above = []; child = child; source = source; target = target; below = below }) ids relink leaf (data_session ids.leaf) has.found links e.serving.1.0 table are has.gives)
front_is (f ∷ above) child source target below ids pages relink None leaf target_layer l reads t0 now is some both has links are table tables of e = absurd (leaf_only (length above) some)
front_is (f ∷ above) child source target below ids pages relink (Some inner) leaf target_layer None reads t0 now is some both has links are table tables of e = absurd (let never : false ≡ true = both in false_true never)
front_is (f ∷ above) child source target below ids pages relink (Some inner) leaf target_layer (Some l) reads t0 now is some both has links are table tables of e =
    front_inner t0 now f above child source target below ids pages relink inner is leaf l reads has.found of
    (λ k from to. e.left k (
      up_to_next k (length above) to,
      (
        up_to_last k (length above) to,
        (
          up_to_second k (length above) to,
          (up_to_next k (length above) to, (up_to_next k (length above) to, (from_one k from, tt))),
        ),
      ),
    ))
    e.serving.0 (sym e.serving.0.number)
    (child_relinks t0 now (record { above = f ∷ above; child = child; source = source; target = target; below = below }) ids relink l (log_session inner) has.found links e.serving.0 tables are has.gives)

-- the source is read from then on
abbrev pub Ended : MergeFiles → MergeIds → List Page → Layer → Layer → Option Layer → ReadLayer → Trace → Trace → Type 0
Ended m ids pages leaf target l source t now = AtEnd t m ids pages ids.child leaf target l now × (IsRead source now (source_in t m ids pages) × (is_synced (file_of now (source_place m)) ≡ true) × NamesNoLog (seen (file_of now (source_place m))))

module _ (m : MergeFiles) (merge : Merge) (d : Disk) (can : CanStart (chain_files m) d) (links : KeepsLinks m merge.ids.target.data_write) (pages_are : ArePages m.child.parts merge.relink)
    (gives : WhereTold d.told (λ t. GivesLocator m.child.parts (seen (file_of t (child_place m))) (relinked_pairs m merge.ids.target.data_write) merge.relink))
    (leaf target : Layer) (l : Option Layer) (source : ReadLayer) (above below : List FileLayer) (some : is_some merge.ids.child ≡ nat_lt 0 (length m.above)) (both : is_some l ≡ is_some merge.ids.child)
    (table : leaf.tables.parts.bat_len ≡ (leaf_of m).parts.bat_len) (tables : IfSome l (λ (x : Layer). x.tables.parts.bat_len ≡ m.child.parts.bat_len))
    (first : AreReadOf 1 (behind_first m.above) above) (rest : AreReadOf (target_place m + 1) m.below below) (layers : Layers) (u : Underway) (geometry : layers.geometry ≡ (leaf_of m).parts.geometry) (leaf_is : layers.leaf ≡ Some leaf)
    (merge_is : layers.merge ≡ Some u) (none_now : layers.retiring ≡ None) (below_is : layers.below.items ≡ (above ++ session_of l) ++ Read source ∷ Session target ∷ below) (place : u.source ≡ length m.above) (relink_is : u.relink ≡ merge.relink)
    (marks : (t : ℕ) → marks_of u.marks t ≡ false) where
  pub serves_told : (o : Option Trace) → WhereBothTold (Ended m merge.ids merge.twice leaf target l source) d.told o → StartsMerge m merge layers d.told o
  serves_told o ended =
      told_from (HasRelink m merge.ids merge.relink) (Ended m merge.ids merge.twice leaf target l source) (ServesMerge m merge layers)
      (λ a b has e. record {
        serving = serves_merge a b m merge.ids merge.twice merge.relink leaf target l source has.found e.0 e.1.0 e.1.1 (above ++ session_of l) below
            (front_is m.above m.child m.source m.target m.below merge.ids merge.twice merge.relink merge.ids.child leaf target l above a b refl some both has links pages_are table tables first e.0) rest layers u geometry leaf_is merge_is none_now below_is
            place relink_is marks;
        no_log = e.1.2;
      }) d.told o
      (λ t told. record { found = are_found m d can t told; gives = gives t told }) ended
