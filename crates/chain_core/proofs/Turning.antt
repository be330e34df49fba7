-- The pages that a merge keeps turn its child's metadata still, while files are read, written and committed.
use Rattle.std.proofs.Common.{◌≡◌, ◌≢◌, ◌<◌, is_some, ℕ, zero, suc, ◌-◌, ◌≤◌, ◌==◌, Bool, true, false, cond, List, [], ◌∷◌, ◌++◌, length, map, get_or, refl, sym, ap, subst, ◌∙◌}
use Rattle.std.specs.Prelude.{⊤, All, Option, Some, None, option_map, IfSome, Result, Ok, Err, OnOk}
use Rattle.store_model.proofs.Told.{both_from}
use Rattle.vx_base.specs.declared.parts.Geometry.{Geometry}
use Rattle.vhdx_format.specs.MetadataTables.{read_metadata}
use Rattle.vhdx_format.specs.declared.log_entry.Page.{Page}
use Rattle.vhdx_format.specs.declared.metadata.Metadata.{Metadata}
use Rattle.store_model.specs.Disk.{Disk, WhereBothTold, WhereTold}
use Rattle.store_model.specs.Trace.{Trace}
use Rattle.table_pages.specs.declared.tables.TableParts.{TableParts}
use Rattle.chain_model.specs.Images.{Placed, RegionBytes}
use Rattle.chain_model.specs.Layers as chain
use Rattle.chain_model.specs.Members.{Ties}
use Rattle.layer_session.specs.declared.file.Layer.{Layer}
use Rattle.layer_session.specs.declared.file.LayerFault.{LayerFault}
use Rattle.layer_session.specs.declared.file.LayerFault.TheVariants.{Read as ReadFault, Write, FileFull}
use Rattle.layer_session.specs.declared.file_layer.FileLayer.{FileLayer}
use Rattle.layer_session.specs.declared.file_layer.FileLayer.TheVariants.{Session, Read}
use Rattle.layer_session.specs.Calls.{HasCommitted, HasKept, HasPut, IsSame, OnRefused, own_file}
use Rattle.layer_session.specs.FileLayers.{AreOthers, AreReadyFiles, FileIsReady, FileTurns, HasFile, HaveFiles, LeavesOthers, number_of, table_parts}
use Rattle.layer_session.specs.Keeping.{Serves}
use Rattle.layer_session.specs.Updating.{IsInRegion, TurnsInto, region_with}
use Rattle.layer_session.proofs.FileLayers.{file_layers_stand}
use Rattle.merge_core.specs.Pieces.{HasPutPiece}
use Rattle.merge_core.specs.declared.piece.Piece.{Piece}
use Rattle.chain_core.specs.declared.layers.Underway.{Underway}
use Rattle.chain_core.specs.declared.layers.Retiring.{Retiring}
use Rattle.guest_model.specs.declared.call.Call.{Call}
use Rattle.chain_core.specs.Copying.{MarksToo, Touches}
use Rattle.chain_core.specs.Sessions.{AtMostOne, CanRelink, CanRetire, IsRetiringOf, child_layer, first_layer, header_at, is_session_at}
use Rattle.log_write.specs.Writing.{HasNextNumber}
use Rattle.layer_session.proofs.Equal.{cons_nil, first_same, nil_cons, none_some, rest_same, some_none, some_same}

-- ---- one file

-- a file of the same metadata and ties
turns_alike : (n m : ℕ) (pages : List Page) (file other : Placed) (ties : Ties) (region : List ℕ) → m ≡ n → other.metadata ≡ file.metadata → other.member.ties ≡ file.member.ties → TurnsInto n pages file ties region → TurnsInto m pages other ties region
turns_alike n m pages file other ties region same metadata tied into = record {
  inside = subst (λ r. All (IsInRegion r) pages) (sym metadata) into.inside;
  region_is = into.region_is ∙ ap (λ r. region_with r pages) (sym metadata);
  reads = subst (λ k. (x : Metadata) → read_metadata other.metadata.bytes k ≡ Ok x → read_metadata region k ≡ Ok (record x { locator = ties.locator; retired = ties.retired })) (sym same)
      (subst (λ (r : RegionBytes). (x : Metadata) → read_metadata r.bytes n ≡ Ok x → read_metadata region n ≡ Ok (record x { locator = ties.locator; retired = ties.retired })) (sym metadata) into.reads);
  ties_are = into.ties_are ∙ ap (λ (t : Ties). record t { locator = ties.locator; retired = ties.retired }) (sym tied);
}

-- What a call leaves of a file that a layer serves: its metadata and its ties.
pub record KeepsTies (l next : Layer) (old new : Trace) : Type 0 where
  pub keeps : (file : Placed) → Serves l old file → (other : Placed) × (Serves next new other × ((other.metadata ≡ file.metadata) × (other.member.ties ≡ file.member.ties)))

-- pages that turned a file's metadata turn them still
pub record TurnStill (before after : Disk) (l next : FileLayer) : Type 0 where
  pub turns : (pages : List Page) → WhereTold before.told (FileTurns l pages) → WhereTold after.told (FileTurns next pages)

-- what was told before what is told now
told_before : (R : Trace → Trace → Type 0) (a b : Option Trace) → WhereBothTold R a b → (now : Trace) → b ≡ Some now → (t : Trace) × ((a ≡ Some t) × R t now)
told_before R None None r now is = absurd (let never : ◌≡◌ {A = Option Trace} None (Some now) = is in none_some never)
told_before R None (Some y) r now is = absurd r
told_before R (Some x) None r now is = absurd r
told_before R (Some x) (Some y) r now is = (x, (refl, subst (R x) (some_same is) r))

pub turn_kept : (before after : Disk) (l next : Layer) → next.tables.parts ≡ l.tables.parts → WhereBothTold (KeepsTies l next) before.told after.told → TurnStill before after (Session l) (Session next)
turn_kept before after l next parts keeps = record {
  turns = λ pages turns now told.
      let b = told_before (KeepsTies l next) before.told after.told keeps now told in
      let t = turns b.0 b.1.0 in
      let k = b.1.1.keeps t.file t.has in
      record {
        file = k.0;
        ties = t.ties;
        region = t.region;
        has = k.1.0;
        into = turns_alike l.tables.parts.bat_len next.tables.parts.bat_len pages t.file k.0 t.ties t.region (ap (λ (p : TableParts). p.bat_len) parts) k.1.1.0 k.1.1.1 t.into;
      };
}

-- another file was changed
turn_beside : (n : ℕ) (before after : Disk) (l : FileLayer) → number_of l ≢ n → WhereBothTold (LeavesOthers n) before.told after.told → TurnStill before after l l
turn_beside n before after l ne others = record {
  turns = λ pages turns now told.
      let b = told_before (LeavesOthers n) before.told after.told others now told in
      let t = turns b.0 b.1.0 in
      record {
        file = t.file;
        ties = t.ties;
        region = t.region;
        has = file_layers_stand.beside l b.0 now t.file t.has (b.1.1.others t.file.number (λ e. ne (sym (file_layers_stand.number l b.0 t.file t.has) ∙ e)));
        into = t.into;
      };
}

-- no file was changed
turn_resting : (before after : Disk) (l : FileLayer) → after.told ≡ before.told → TurnStill before after l l
turn_resting before after l same = record { turns = λ pages turns now told. turns now (sym same ∙ told) }

pub turn_read : (before after : Disk) (l next : Layer) → after.told ≡ before.told → IsSame l next before → TurnStill before after (Session l) (Session next)
turn_read before after l next told_same same = record {
  turns = λ pages turns now told.
      let is : before.told ≡ Some now = sym told_same ∙ told in
      let t = turns now is in
      record {
        file = t.file;
        ties = t.ties;
        region = t.region;
        has = same.serves now t.file is t.has;
        into = turns_alike l.tables.parts.bat_len next.tables.parts.bat_len pages t.file t.file t.ties t.region (ap (λ (p : TableParts). p.bat_len) same.parts) refl refl t.into;
      };
}

-- ---- several files

abbrev pub AllTurnStill : Disk → Disk → List FileLayer → List FileLayer → Type 0
AllTurnStill before after [] [] = ⊤
AllTurnStill before after [] (y ∷ ys) = ⊥
AllTurnStill before after (x ∷ xs) [] = ⊥
AllTurnStill before after (x ∷ xs) (y ∷ ys) = TurnStill before after x y × AllTurnStill before after xs ys

abbrev pub TopTurnsStill : Disk → Disk → Option Layer → Option Layer → Type 0
TopTurnsStill before after None None = ⊤
TopTurnsStill before after None (Some y) = ⊥
TopTurnsStill before after (Some x) None = ⊥
TopTurnsStill before after (Some x) (Some y) = TurnStill before after (Session x) (Session y)

pub all_beside : (n : ℕ) (before after : Disk) (layers : List FileLayer) → AreOthers n layers → WhereBothTold (LeavesOthers n) before.told after.told → AllTurnStill before after layers layers
all_beside n before after [] ne others = tt
all_beside n before after (l ∷ layers) ne others = (turn_beside n before after l ne.0 others, all_beside n before after layers ne.1 others)

pub all_but_one : (n : ℕ) (before after : Disk) (a b : List FileLayer) (x y : FileLayer) → AreOthers n a → AreOthers n b → WhereBothTold (LeavesOthers n) before.told after.told → TurnStill before after x y → AllTurnStill before after (a ++ x ∷ b) (a ++ y ∷ b)
all_but_one n before after [] b x y first last others own = (own, all_beside n before after b last others)
all_but_one n before after (l ∷ a) b x y first last others own = (turn_beside n before after l first.0 others, all_but_one n before after a b x y first.1 last others own)

pub all_resting : (before after : Disk) (layers : List FileLayer) → after.told ≡ before.told → AllTurnStill before after layers layers
all_resting before after [] same = tt
all_resting before after (l ∷ layers) same = (turn_resting before after l same, all_resting before after layers same)

pub top_beside : (n : ℕ) (before after : Disk) (top : Option Layer) → IfSome top (λ l. own_file l ≢ n) → WhereBothTold (LeavesOthers n) before.told after.told → TopTurnsStill before after top top
top_beside n before after None ne others = tt
top_beside n before after (Some l) ne others = turn_beside n before after (Session l) ne others

pub top_resting : (before after : Disk) (top : Option Layer) → after.told ≡ before.told → TopTurnsStill before after top top
top_resting before after None same = tt
top_resting before after (Some l) same = turn_resting before after (Session l) same

-- files that are ready are had where the store tells its content
files_of : (g : Geometry) (disk : Disk) (layers : List FileLayer) (t : Trace) → disk.told ≡ Some t → AreReadyFiles g disk layers → (files : List Placed) × HaveFiles layers t files
files_of g disk [] t told ready = ([], tt)
files_of g disk (l ∷ layers) t told ready =
    let own = by_kind l ready.0.ready in
    let rest = files_of g disk layers t told ready.1 in
    (own.0 ∷ rest.0, (own.1, rest.1))
  where
    by_kind : (l : FileLayer) → FileIsReady l disk → (file : Placed) × HasFile l t file
    by_kind (Session l) ready = ready.told t told
    by_kind (Read l) ready = ready.told t told

-- files that were read
pub all_read : (g : Geometry) (before after : Disk) (was now : List FileLayer) → map table_parts now ≡ map table_parts was → after.told ≡ before.told → AreReadyFiles g before was
    → ((t : Trace) (files : List Placed) → before.told ≡ Some t → HaveFiles was t files → HaveFiles now t files) → AllTurnStill before after was now
all_read g before after [] [] parts same ready have = tt
all_read g before after [] (y ∷ ys) parts same ready have = absurd (let never : table_parts y ∷ map table_parts ys ≡ [] = parts in cons_nil never)
all_read g before after (x ∷ xs) [] parts same ready have = absurd (let never : [] ≡ table_parts x ∷ map table_parts xs = parts in nil_cons never)
all_read g before after (x ∷ xs) (y ∷ ys) parts same ready have = (
  record {
    turns = λ pages turns now told.
        let is : before.told ≡ Some now = sym same ∙ told in
        let t = turns now is in
        let rest = files_of g before xs now is ready.1 in
        let one : table_parts y ≡ table_parts x = first_same parts in
        record {
          file = t.file;
          ties = t.ties;
          region = t.region;
          has = (have now (t.file ∷ rest.0) is (t.has, rest.1)).0;
          into = turns_alike (table_parts x).bat_len (table_parts y).bat_len pages t.file t.file t.ties t.region (ap (λ (p : TableParts). p.bat_len) one) refl refl t.into;
        };
  },
  all_read g before after xs ys (rest_same parts) same ready.1
      (λ t files told had. let first = files_of g before (x ∷ []) t told (ready.0, tt) in by_first t files told had first.0 first.1),
)
  where
    by_first : (t : Trace) (files : List Placed) → before.told ≡ Some t → HaveFiles xs t files → (first : List Placed) → HaveFiles (x ∷ []) t first → HaveFiles ys t files
    by_first t files told had [] own = absurd own
    by_first t files told had (f ∷ first) own = (have t (f ∷ files) told (own.0, had)).1

-- ---- the child

turns_in : (before after : Disk) (xs ys : List FileLayer) (pages : List Page) (k : ℕ) → AllTurnStill before after xs ys → IfSome (get_or (map (λ l. Some l) xs) k None) (λ l. WhereTold before.told (FileTurns l pages))
    → IfSome (get_or (map (λ l. Some l) ys) k None) (λ l. WhereTold after.told (FileTurns l pages))
turns_in before after [] [] pages zero all h = tt
turns_in before after [] [] pages (suc k) all h = tt
turns_in before after [] (y ∷ ys) pages k all h = absurd all
turns_in before after (x ∷ xs) [] pages k all h = absurd all
turns_in before after (x ∷ xs) (y ∷ ys) pages zero all h = all.0.turns pages h
turns_in before after (x ∷ xs) (y ∷ ys) pages (suc k) all h = turns_in before after xs ys pages k all.1 h

child_turns : (before after : Disk) (o p : Option Layer) (xs ys : List FileLayer) (pages : List Page) (place : ℕ) → TopTurnsStill before after o p → AllTurnStill before after xs ys
    → IfSome (child_layer o xs place) (λ l. WhereTold before.told (FileTurns l pages)) → IfSome (child_layer p ys place) (λ l. WhereTold after.told (FileTurns l pages))
child_turns before after o p xs ys pages place top all h = by_place (place == 0) h
  where
    by_top : (o p : Option Layer) → TopTurnsStill before after o p → IfSome (option_map Session o) (λ l. WhereTold before.told (FileTurns l pages)) → IfSome (option_map Session p) (λ l. WhereTold after.told (FileTurns l pages))
    by_top None None top h = tt
    by_top None (Some y) top h = absurd top
    by_top (Some x) None top h = absurd top
    by_top (Some x) (Some y) top h = top.turns pages h

    by_place : (b : Bool) → IfSome (cond b (option_map Session o) (get_or (map (λ l. Some l) xs) (place - 1) None)) (λ l. WhereTold before.told (FileTurns l pages))
        → IfSome (cond b (option_map Session p) (get_or (map (λ l. Some l) ys) (place - 1) None)) (λ l. WhereTold after.told (FileTurns l pages))
    by_place true h = by_top o p top h
    by_place false h = turns_in before after xs ys pages (place - 1) all h

-- the same merge, or one with other marks
pub relink_still : (before after : Disk) (o p : Option Layer) (xs ys : List FileLayer) (u w : Underway) → w.source ≡ u.source → w.relink ≡ u.relink → TopTurnsStill before after o p → AllTurnStill before after xs ys
    → CanRelink o xs before u → CanRelink p ys after w
relink_still before after o p xs ys u w source relink top all can = record {
  few = subst (λ (pages : List Page). length pages ≤ 120) (sym relink) can.few;
  turns = subst (λ (pages : List Page). IfSome (child_layer p ys w.source) (λ l. WhereTold after.told (FileTurns l pages))) (sym relink)
      (subst (λ (n : ℕ). IfSome (child_layer p ys n) (λ l. WhereTold after.told (FileTurns l u.relink))) (sym source) (child_turns before after o p xs ys u.relink u.source top all can.turns));
}

pub relink_same : (before after : Disk) (o p : Option Layer) (xs ys : List FileLayer) (m : Option Underway) → TopTurnsStill before after o p → AllTurnStill before after xs ys
    → IfSome m (CanRelink o xs before) → IfSome m (CanRelink p ys after)
relink_same before after o p xs ys None top all can = tt
relink_same before after o p xs ys (Some u) top all can = relink_still before after o p xs ys u u refl refl top all can

-- ---- the merge of the leaf

-- what is kept of it, but for marks and stamps
pub record IsAlike (r w : Retiring) : Type 0 where
  pub retire : w.retire ≡ r.retire
  pub clear : w.clear ≡ r.clear
  pub stripes : w.marks.stripes ≡ r.marks.stripes
  pub words : length w.stamps.words.items ≡ length r.stamps.words.items

abbrev pub Alike : Option Retiring → Option Retiring → Type 0
Alike None None = ⊤
Alike None (Some w) = ⊥
Alike (Some r) None = ⊥
Alike (Some r) (Some w) = IsAlike r w

pub alike_same : (o p : Option Retiring) → p ≡ o → Alike o p
alike_same o p same = subst (λ (k : Option Retiring). Alike o k) (sym same) (itself o)
  where
    itself : (o : Option Retiring) → Alike o o
    itself None = tt
    itself (Some r) = record { retire = refl; clear = refl; stripes = refl; words = refl }

pub alike_touched : (z place : ℕ) (call : Call) (o p : Option Retiring) → Touches z call place o p → Alike o p
alike_touched z place call None None t = tt
alike_touched z place call None (Some w) t = absurd t
alike_touched z place call (Some r) None t = absurd t
alike_touched z place call (Some r) (Some w) t = record { retire = ap (λ (k : Retiring). k.retire) t.rest; clear = ap (λ (k : Retiring). k.clear) t.rest; stripes = t.stripes; words = t.words }

pub alike_marked : (stripe : ℕ) (o p : Option Retiring) → MarksToo stripe o p → Alike o p
alike_marked stripe None None t = tt
alike_marked stripe None (Some w) t = absurd t
alike_marked stripe (Some r) None t = absurd t
alike_marked stripe (Some r) (Some w) t =
    record { retire = ap (λ (k : Retiring). k.retire) t.rest; clear = ap (λ (k : Retiring). k.clear) t.rest; stripes = t.stripes; words = ap (λ (k : Retiring). length k.stamps.words.items) t.rest }

pub one_alike : (u : Option Underway) (o p : Option Retiring) → Alike o p → AtMostOne u o → AtMostOne u p
one_alike None o p alike one = tt
one_alike (Some u) None None alike one = refl
one_alike (Some u) None (Some w) alike one = absurd alike
one_alike (Some u) (Some r) p alike one = absurd (let never : ◌≡◌ {A = Option Retiring} (Some r) None = one in some_none never)

pub retiring_alike : (g : Geometry) (o p : Option Layer) (xs ys : List FileLayer) (m n : Option Retiring) → Alike m n → is_some p ≡ is_some o → (0 < length xs → 0 < length ys) → is_session_at ys 0 ≡ is_session_at xs 0 → header_at ys 0 ≡ header_at xs 0
    → IfSome m (IsRetiringOf g o xs) → IfSome n (IsRetiringOf g p ys)
retiring_alike g o p xs ys None None alike top long target next is = tt
retiring_alike g o p xs ys None (Some w) alike top long target next is = absurd alike
retiring_alike g o p xs ys (Some r) None alike top long target next is = absurd alike
retiring_alike g o p xs ys (Some r) (Some w) alike top long target next is =
    record { session = top ∙ is.session; there = long is.there; target = target ∙ is.target; next = subst (λ h. IfSome h HasNextNumber) (sym next) is.next; size = is.size; stripes = alike.stripes ∙ is.stripes; stamps = alike.words ∙ is.stamps }

pub retires_alike : (before after : Disk) (o p : Option Layer) (xs ys : List FileLayer) (m n : Option Retiring) → Alike m n → TopTurnsStill before after o p → AllTurnStill before after xs ys
    → IfSome m (CanRetire o xs before) → IfSome n (CanRetire p ys after)
retires_alike before after o p xs ys None None alike top all can = tt
retires_alike before after o p xs ys None (Some w) alike top all can = absurd alike
retires_alike before after o p xs ys (Some r) None alike top all can = absurd alike
retires_alike before after o p xs ys (Some r) (Some w) alike top all can = record {
  few = subst (λ (pages : List Page). length pages ≤ 120) (sym alike.retire) can.few;
  turns = subst (λ (pages : List Page). IfSome p (λ l. WhereTold after.told (FileTurns (Session l) pages))) (sym alike.retire) (by_top o p top can.turns);
  clears = subst (λ (c : Option (List Page)). IfSome c (λ pages. (length pages ≤ 120) × IfSome (first_layer ys) (λ l. WhereTold after.told (FileTurns l pages)))) (sym alike.clear) (by_clear r.clear can.clears);
}
  where
    by_top : (o p : Option Layer) → TopTurnsStill before after o p → IfSome o (λ l. WhereTold before.told (FileTurns (Session l) r.retire)) → IfSome p (λ l. WhereTold after.told (FileTurns (Session l) r.retire))
    by_top None None top h = tt
    by_top None (Some y) top h = absurd top
    by_top (Some x) None top h = absurd top
    by_top (Some x) (Some y) top h = top.turns r.retire h

    by_clear : (c : Option (List Page)) → IfSome c (λ pages. (length pages ≤ 120) × IfSome (first_layer xs) (λ l. WhereTold before.told (FileTurns l pages)))
        → IfSome c (λ pages. (length pages ≤ 120) × IfSome (first_layer ys) (λ l. WhereTold after.told (FileTurns l pages)))
    by_clear None h = tt
    by_clear (Some pages) h = (h.0, turns_in before after xs ys pages 0 all h.1)

-- ---- what calls leave

-- after Ok, or a refusal without a failed change
abbrev pub KeepsUnlessBroken : {T : Type 0} → Result T LayerFault → Layer → Layer → Option Trace → Option Trace → Type 0
KeepsUnlessBroken (Ok done) l next a b = WhereBothTold (KeepsTies l next) a b
KeepsUnlessBroken (Err (ReadFault f)) l next a b = WhereBothTold (KeepsTies l next) a b
KeepsUnlessBroken (Err (FileFull n)) l next a b = WhereBothTold (KeepsTies l next) a b
KeepsUnlessBroken (Err (Write f)) l next a b = ⊤

kept_ties : (l next : Layer) (a b : Option Trace) → WhereBothTold (HasKept l next) a b → WhereBothTold (KeepsTies l next) a b
kept_ties l next a b = both_from (HasKept l next) (KeepsTies l next) a b (λ t u h. record { keeps = λ file serves. (file, (h.serves file serves, (refl, refl))) })

pub put_ties : (l next : Layer) (first count : ℕ) (layer : chain.Layer → chain.Layer) (a b : Option Trace) (answer : Result (Unit {0}) LayerFault) → OnOk answer (WhereBothTold (HasPut l next first count layer) a b)
    → OnRefused answer (WhereBothTold (HasKept l next) a b) → KeepsUnlessBroken answer l next a b
put_ties l next first count layer a b (Ok done) put kept =
    both_from (HasPut l next first count layer) (KeepsTies l next) a b (λ t u h. record { keeps = λ file serves. (_, (h.serves file serves, (refl, refl))) }) put
put_ties l next first count layer a b (Err (ReadFault f)) put kept = kept_ties l next a b kept
put_ties l next first count layer a b (Err (FileFull n)) put kept = kept_ties l next a b kept
put_ties l next first count layer a b (Err (Write f)) put kept = tt

pub piece_ties : (l next : Layer) (piece : Piece) (a b : Option Trace) (answer : Result (Unit {0}) LayerFault) → OnOk answer (WhereBothTold (HasPutPiece l next piece) a b)
    → OnRefused answer (WhereBothTold (HasKept l next) a b) → KeepsUnlessBroken answer l next a b
piece_ties l next piece a b (Ok done) put kept =
    both_from (HasPutPiece l next piece) (KeepsTies l next) a b (λ t u h. record { keeps = λ file serves. (_, (h.serves file serves, (refl, refl))) }) put
piece_ties l next piece a b (Err (ReadFault f)) put kept = kept_ties l next a b kept
piece_ties l next piece a b (Err (FileFull n)) put kept = kept_ties l next a b kept
piece_ties l next piece a b (Err (Write f)) put kept = tt

pub commit_ties : (l next : Layer) (a b : Option Trace) → WhereBothTold (HasCommitted l next) a b → WhereBothTold (KeepsTies l next) a b
commit_ties l next a b = both_from (HasCommitted l next) (KeepsTies l next) a b (λ t u h. record { keeps = λ file serves. (_, (h.serves file serves, (refl, refl))) })
