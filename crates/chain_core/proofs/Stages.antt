-- The phases by which a merge in the middle of a chain is prepared.
use Rattle.std.proofs.Common.{◌≡◌, ◌≢◌, ℕ, ◌+◌, ◌^◌, ◌<◌, ◌≤◌, get_or, false, List, [], ◌∷◌, ◌++◌, length, refl, sym, ap, subst, ◌∙◌, arith}
use Rattle.std.specs.Prelude.{Some, slice_index_or}
use Rattle.std.specs.List.{AllByRecursion}
use Rattle.vx_base.specs.Fields.{bytes_at}
use Rattle.vx_base.specs.declared.parts.Parts.{Parts}
use Rattle.vhdx_format.specs.Locators.{locator_bytes}
use Rattle.vhdx_format.specs.MetadataTables.{read_metadata}
use Rattle.vhdx_format.specs.declared.locator.Pair.{Pair}
use Rattle.vhdx_format.specs.declared.log_entry.Page.{Page}
use Rattle.store_model.specs.File.{File, seen}
use Rattle.store_model.proofs.Parts.{length-part, part-overwritten}
use Rattle.store_model.specs.Trace.{Trace, file_of}
use Rattle.guest_model.specs.Calls.{Disk}
use Rattle.log_write.specs.Writing.{CanBegin}
use Rattle.log_write.specs.declared.ids.SessionIds.{SessionIds}
use Rattle.chain_model.specs.Files.{HasParts, at_rest}
use Rattle.chain_model.specs.Images.{Placed, members_of, name_of}
use Rattle.chain_model.specs.Members.{IsChainOf, Ties, Way}
use Rattle.chain_model.specs.Sessions.{GoesOver, HasGoneOver, as_read}
use Rattle.layer_session.specs.Begins.{BeginsOver, CanServe, HasBegun, as_found, in_session}
use Rattle.layer_session.specs.Calls.{IsBeside, KeepsOver}
use Rattle.layer_session.specs.Keeping.{Serves}
use Rattle.layer_session.specs.Updating.{HasUpdated, TurnsInto, UpdatesOver, laid_region, own_len, turned}
use Rattle.layer_session.specs.declared.file.Layer.{Layer}
use Rattle.layer_session.proofs.Crashes.{layers_are_kept}
use Rattle.layer_session.proofs.PagesTurned.{pages_turn}
use Rattle.layer_session.proofs.Standing.{same_length}
use Rattle.meta_edit.specs.Edits.{with_region}
use Rattle.meta_edit.specs.Pages.{ArePages, IsPageIn, with_pages}
use Rattle.merge_plan.specs.Merging.{GivesLocator}
use Rattle.chain_core.proofs.Phases.{Opened, Pair as Served, Reached, fewer, one_more_pair, phase_opens, phase_reaches}
use Rattle.chain_core.proofs.Steps.{goes_over}

-- ---- what hangs on one file and on the names alone

pub found_same : (n : ℕ) (parts : Parts) (a b : Trace) → IsBeside n a b → as_found b n parts ≡ as_found a n parts
found_same n parts a b k =
    ap (λ (f : File). (let made : Placed = record (as_found b n parts) { member = record ((as_read b n (seen f) parts).member) { name = name_of b.attached n }; metadata = (as_read b n (seen f) parts).metadata } in made)) k.same
    ∙ ap (λ (names : List (List ℕ)). (let made : Placed = record (as_found a n parts) { member = record ((as_found a n parts).member) { name = slice_index_or names n [] } } in made)) k.names

pub serve_beside : (parts : Parts) (log : List ℕ) (n : ℕ) (a b : Trace) → IsBeside n a b → CanServe parts log n a → CanServe parts log n b
serve_beside parts log n a b k can = record {
  within = subst (λ (len : ℕ). n < len) (sym (same_length b.attached a.attached k.names)) can.within;
  most = subst (λ (f : File). length (seen f) ≤ 2 ^ 63) (sym k.same) can.most;
  begins = subst (CanBegin parts.header log) (sym k.same) can.begins;
  reads = subst (λ (f : File). HasParts (at_rest (seen f)) (seen f) parts) (sym k.same) can.reads;
}

-- ---- pages that give a file a locator

-- the region that they lay is the one that they give
pub laid_gives : (t0 : Trace) (n : ℕ) (parts : Parts) (ids : SessionIds) (pairs : List Pair) (pages : List Page) → parts.meta_at + parts.meta_len ≤ length (seen (file_of t0 n)) → (gives : GivesLocator parts (seen (file_of t0 n)) pairs pages)
    → laid_region (as_found t0 n (in_session parts ids)) pages (seen (file_of t0 n)) ≡ gives.region
unfolding bytes_at
laid_gives t0 n parts ids pairs pages within gives =
    let bytes = seen (file_of t0 n) in
    let region : List ℕ = bytes_at bytes parts.meta_at parts.meta_len in
    let long : length region ≡ parts.meta_len = length-part bytes parts.meta_at parts.meta_len within in
    let turned_to : with_pages pages bytes ≡ with_region parts bytes gives.region = gives.turn bytes within refl in
    ap (λ (z : List ℕ). bytes_at z parts.meta_at (length region)) turned_to ∙ ap (bytes_at (with_region parts bytes gives.region) parts.meta_at) (long ∙ sym gives.long) ∙ part-overwritten bytes gives.region parts.meta_at (length gives.region) (omega (arith, within)) refl

-- They turn what a session serves that began on the file as it was found.
pub gives_turn : (l : Layer) (t0 trace : Trace) (n : ℕ) (parts : Parts) (ids : SessionIds) (pairs : List Pair) (pages : List Page) → Serves l trace (as_found t0 n (in_session parts ids)) → l.tables.parts.bat_len ≡ parts.bat_len
    → parts.meta_at + parts.meta_len ≤ length (seen (file_of t0 n)) → ArePages parts pages → GivesLocator parts (seen (file_of t0 n)) pairs pages
    → TurnsInto (own_len l) pages (as_found t0 n (in_session parts ids)) (record ((as_found t0 n (in_session parts ids)).member.ties) { locator = Some (locator_bytes pairs) })
    (laid_region (as_found t0 n (in_session parts ids)) pages (seen (file_of t0 n)))
unfolding bytes_at
gives_turn l t0 trace n parts ids pairs pages serves table within are gives =
    let file : Placed = as_found t0 n (in_session parts ids) in
    let bytes = seen (file_of t0 n) in
    let region : List ℕ = bytes_at bytes parts.meta_at parts.meta_len in
    let long : length region ≡ parts.meta_len = length-part bytes parts.meta_at parts.meta_len within in
    let laid : laid_region file pages bytes ≡ gives.region = laid_gives t0 n parts ids pairs pages within gives in
    pages_turn.locator l trace file pages bytes (locator_bytes pairs) serves
    (record {
      inside = λ k d b. (let p : IsPageIn parts.meta_at parts.meta_len (get_or pages k d) = are k d b in
          record { aligned = p.aligned; whole = p.whole; first = p.first; last = (let last : (get_or pages k d).at + 4096 ≤ parts.meta_at + parts.meta_len = p.last in omega (arith, last, long)) });
      within = omega (arith, within, long);
      same = ap (bytes_at bytes parts.meta_at) long;
    })
    (λ m e. ap (read_metadata (laid_region file pages bytes)) table ∙ ap (λ (z : List ℕ). read_metadata z parts.bat_len) laid ∙ gives.reads m (ap (read_metadata region) (sym table) ∙ e))

-- ---- phase by phase

module _ (z : ℕ) (opening : Disk) (leaf : Way) (t0 : Trace) where
  -- the file that a session begins on is as it was found
  begins_from : (n : ℕ) (parts : Parts) (ids : SessionIds) (old new : Trace) → IsBeside n t0 old → BeginsOver parts ids n old new → GoesOver (as_found t0 n parts) (as_found t0 n (in_session parts ids)) old new
  begins_from n parts ids old new k over =
      subst (λ (y : Placed). GoesOver (as_found t0 n parts) y old new) (found_same n (in_session parts ids) t0 old k)
      (subst (λ (x : Placed). GoesOver x (as_found old n (in_session parts ids)) old new) (found_same n parts t0 old k) over)

  pub begun_from : (n : ℕ) (parts : Parts) (ids : SessionIds) (l : Layer) (old new : Trace) → IsBeside n t0 old → HasBegun parts ids n l old new → Serves l new (as_found t0 n (in_session parts ids))
  begun_from n parts ids l old new k begun = subst (λ (y : Placed). Serves l new y) (found_same n (in_session parts ids) t0 old k) begun

  -- A session begins on a file of the chain.
  module _ (a b : List Placed) (n : ℕ) (parts : Parts) (ids : SessionIds) (numbers : List ℕ) (pairs : List Served) (old new : Trace) (r : Reached z opening leaf (a ++ as_found t0 n parts ∷ b) numbers pairs t0 old)
      (apart : AllByRecursion (λ k. n ≢ k) numbers) (linked : IsChainOf leaf.name [] (members_of (a ++ as_found t0 n (in_session parts ids) ∷ b))) (over : BeginsOver parts ids n old new) where
    goes : GoesOver (as_found t0 n parts) (as_found t0 n (in_session parts ids)) old new
    goes = begins_from n parts ids old new (r.left n apart) over

    pub begin_opens : Opened opening leaf (n ∷ numbers) t0 new
    begin_opens = phase_opens z opening leaf a (as_found t0 n parts) (as_found t0 n (in_session parts ids)) b numbers pairs t0 old new r goes (λ s. refl) refl (λ s. refl) linked

    pub begin_reaches : (l : Layer) → AllByRecursion (λ (p : Served). p.file.number ≢ n) pairs → HasBegun parts ids n l old new
        → Reached z opening leaf (a ++ as_found t0 n (in_session parts ids) ∷ b) (n ∷ numbers) (record { layer = l; file = as_found t0 n (in_session parts ids) } ∷ pairs) t0 new
    begin_reaches l ne begun =
        let serves = begun_from n parts ids l old new (r.left n apart) begun in
        one_more_pair z opening leaf (a ++ as_found t0 n (in_session parts ids) ∷ b) (n ∷ numbers) l (as_found t0 n (in_session parts ids)) pairs t0 new serves
        (phase_reaches z opening leaf a (as_found t0 n parts) (as_found t0 n (in_session parts ids)) b numbers pairs t0 old new r goes (λ s. refl) refl (λ s. refl) linked ne
        (layers_are_kept l new (as_found t0 n (in_session parts ids)) serves).shows)

  -- A file in a session gets other metadata.
  module _ (a b : List Placed) (l : Layer) (x : Placed) (ties : Ties) (region : List ℕ) (pages : List Page) (numbers : List ℕ) (pairs : List Served) (old new : Trace)
      (r : Reached z opening leaf (a ++ x ∷ b) numbers (record { layer = l; file = x } ∷ pairs) t0 old) (into : TurnsInto (own_len l) pages x ties region)
      (linked : IsChainOf leaf.name [] (members_of (a ++ turned ties region x ∷ b))) (over : UpdatesOver l pages old new) where
    turns_over : GoesOver x (turned ties region x) old new
    turns_over = over.over x ties region r.serving.0 into

    same_geometry : x.member.ties.geometry ≡ ties.geometry
    same_geometry = sym (ap (λ (t : Ties). t.geometry) into.ties_are)

    pub update_opens : Opened opening leaf (x.number ∷ numbers) t0 new
    update_opens = phase_opens z opening leaf a x (turned ties region x) b numbers (record { layer = l; file = x } ∷ pairs) t0 old new r turns_over (λ s. refl) same_geometry (λ s. refl) linked

    pub update_reaches : (next : Layer) → AllByRecursion (λ (p : Served). p.file.number ≢ x.number) pairs → HasUpdated l next pages old new
        → Reached z opening leaf (a ++ turned ties region x ∷ b) (x.number ∷ numbers) (record { layer = next; file = turned ties region x } ∷ pairs) t0 new
    update_reaches next ne updated =
        let serves = updated.serves x ties region r.serving.0 into in
        let before : Reached z opening leaf (a ++ x ∷ b) numbers pairs t0 old = fewer z opening leaf (a ++ x ∷ b) numbers (record { layer = l; file = x }) pairs t0 old r in
        one_more_pair z opening leaf (a ++ turned ties region x ∷ b) (x.number ∷ numbers) next (turned ties region x) pairs t0 new serves
        (phase_reaches z opening leaf a x (turned ties region x) b numbers pairs t0 old new before turns_over (λ s. refl) same_geometry (λ s. refl) linked ne
        (layers_are_kept next new (turned ties region x) serves).shows)

  -- A session ends, of a file with nothing loose.
  module _ (a b : List Placed) (l : Layer) (x : Placed) (numbers : List ℕ) (pairs : List Served) (old new : Trace)
      (r : Reached z opening leaf (a ++ x ∷ b) numbers pairs t0 old) (serves : Serves l old x) (own : (s : ℕ) → x.is_loose s ≡ false) (linked : IsChainOf leaf.name [] (members_of (a ++ x ∷ b))) (keeps : KeepsOver l old new) where
    ends_over : GoesOver x x old new
    ends_over = goes_over x x old new refl refl (keeps.over x serves)

    pub close_opens : Opened opening leaf (x.number ∷ numbers) t0 new
    close_opens = phase_opens z opening leaf a x x b numbers pairs t0 old new r ends_over (λ s. refl) refl own linked

    pub close_reaches : AllByRecursion (λ (p : Served). p.file.number ≢ x.number) pairs → HasGoneOver x new → Reached z opening leaf (a ++ x ∷ b) (x.number ∷ numbers) pairs t0 new
    close_reaches ne gone =
        phase_reaches z opening leaf a x x b numbers pairs t0 old new r ends_over (λ s. refl) refl own linked ne gone
