-- New identifiers of which none is unfit let the leaf's session begin.
use Rattle.std.proofs.Common.{◌≡◌, ℕ, zero, suc, ◌+◌, ◌*◌, ◌/◌, ◌%◌, ◌<◌, ◌≤◌, Bool, true, false, List, [], ◌∷◌, ◌++◌, length, take, drop, min, refl, sym, ap, subst, ◌∙◌, arith}
use Rattle.std.specs.Prelude.{Option, Some, None, Ok, codes, if◌then◌else◌}
use Rattle.std.specs.List.{list_any}
use Rattle.std.proofs.lemmas.Bool.{or_parts}
use Rattle.std.proofs.lemmas.List.{length-take, take-take}
use Rattle.std.proofs.lemmas.List.Folds.{list_any-append}
use Rattle.uuid.specs.Parts.{swap_fields}
use Rattle.vx_base.specs.Fields.{bytes_at, guid_at}
use Rattle.vx_base.specs.declared.parts.Header.{Header}
use Rattle.vhdx_format.specs.Fields.{is_zero_id, same_id}
use Rattle.vhdx_format.specs.FileParts.{read_head}
use Rattle.vhdx_format.specs.Headers.{held_header}
use Rattle.vhdx_format.specs.SettledFiles.{Settles, ring_of, with_updates}
use Rattle.vhdx_format.specs.TornWrites.{HasNoHead, IsHead}
use Rattle.store_model.specs.Disk.{Disk, WhereTold}
use Rattle.store_model.specs.File.{seen}
use Rattle.store_model.specs.Trace.{Trace, file_of}
use Rattle.chain_model.specs.Files.{with_pages}
use Rattle.link_rules.specs.Effects.{IsServed}
use Rattle.link_rules.specs.declared.linked.LinkedFile.{LinkedFile}
use Rattle.log_write.proofs.Entries.{megabytes}
use Rattle.make_file.specs.Identifiers.{first_unfit, is_unfit}
use Rattle.shown_ids.specs.Shown.{header_ids, listed, locator_ids, place_id, place_ids, shown}
use Rattle.layer_session.specs.Begins.{CanServe}
use Rattle.layer_session.proofs.Numbers.{are_numbers}
use Rattle.merge_plan.specs.Attached.{CanStart, IsAsOpened, shown_from}
use Rattle.chain_core.specs.Starting.{JudgesIds}
use Rattle.merge_plan.specs.declared.drawing.NewIds.{NewIds}
use Rattle.chain_model.proofs.Showing.{eq_names}
use Rattle.merge_plan.proofs.Planned.{passed}
use Rattle.shown_ids.proofs.Places.{part_at}
use Rattle.layer_session.proofs.Equal.{true_false}

-- ---- the third of three identifiers

third_fit : (known : List (List ℕ)) (a b c : List ℕ) → first_unfit known (a ∷ b ∷ c ∷ []) ≡ None → is_unfit (b ∷ a ∷ known) c ≡ false
third_fit known a b c h =
    let first = passed (is_unfit known a) a _ h in
    let second = passed (is_unfit (a ∷ known) b) b _ first.1 in
    (passed (is_unfit (b ∷ a ∷ known) c) c None second.1).0

-- it is not zero, and none of those that are known
third_new : (known : List (List ℕ)) (a b c : List ℕ) → first_unfit known (a ∷ b ∷ c ∷ []) ≡ None → (is_zero_id c ≡ false) × (list_any (same_id c) known ≡ false)
third_new known a b c h =
    let fit = or_parts (is_zero_id c) _ (third_fit known a b c h) in
    let others = or_parts (same_id c b) _ fit.1 in
    (fit.0, (or_parts (same_id c a) _ others.1).1)

pub any_left : (p : List ℕ → Bool) (a b : List (List ℕ)) → list_any p (a ++ b) ≡ false → list_any p a ≡ false
any_left p a b h = (or_parts (list_any p a) (list_any p b) (sym (list_any-append p a b) ∙ h)).0

pub any_right : (p : List ℕ → Bool) (a b : List (List ℕ)) → list_any p (a ++ b) ≡ false → list_any p b ≡ false
any_right p a b h = (or_parts (list_any p a) (list_any p b) (sym (list_any-append p a b) ∙ h)).1

-- ---- places of the log

no_place : (id file : List ℕ) (at n : ℕ) → list_any (same_id id) (place_ids file at n) ≡ false → (k : ℕ) → k < n → (x : List ℕ) → place_id file (at + 4096 * k) ≡ Some x → same_id id x ≡ false
unfolding place_ids
no_place id file at zero none k below x is = absurd (omega arith)
no_place id file at (suc n) none zero below x is =
    let same : at + 4096 * zero ≡ at = omega arith in
    let here : place_id file at ≡ Some x = ap (place_id file) (sym same) ∙ is in
    (or_parts (same_id id x) false (subst (λ o. list_any (same_id id) (listed o) ≡ false) here (any_left (same_id id) (listed (place_id file at)) (place_ids file (at + 4096) n) none))).0
no_place id file at (suc n) none (suc k) below x is =
    let same : at + 4096 * suc k ≡ at + 4096 + 4096 * k = omega arith in
    no_place id file (at + 4096) n (any_right (same_id id) (listed (place_id file at)) (place_ids file (at + 4096) n) none) k (omega arith) x (ap (place_id file) (sym same) ∙ is)

-- a head in the ring is a place of the file that shows its identifier
place_of_head : (id file : List ℕ) (log len p : ℕ) → IsHead id (ring_of log len file) p → p + 64 ≤ len → place_id file (log + p) ≡ Some id
unfolding bytes_at guid_at place_id
place_of_head id file log len p head fits =
    let ring : List ℕ = take len (drop log file) in
    let four : take 4 (drop (log + p) file) ≡ codes "loge" =
    sym (part_at file log len p 4 (omega arith)) ∙ sym (take-take 4 64 (drop p ring) (omega arith)) ∙ head.signature in
    let inner : take 16 (drop 32 (take 64 (drop p ring))) ≡ take 16 (drop (p + 32) ring) = part_at ring p 64 32 16 (omega arith) in
    let outer : take 16 (drop (p + 32) ring) ≡ take 16 (drop (log + (p + 32)) file) = part_at file log len (p + 32) 16 (omega arith) in
    let place : log + (p + 32) ≡ log + p + 32 = omega arith in
    let same : swap_fields (take 16 (drop (log + p + 32) file)) ≡ id =
    ap (λ (k : ℕ). swap_fields (take 16 (drop k file))) (sym place) ∙ ap swap_fields (sym outer) ∙ ap swap_fields (sym inner) ∙ head.under_id in
    ap (λ (b : Bool). if b then Some (swap_fields (take 16 (drop (log + p + 32) file))) else None) (eq_names (take 4 (drop (log + p) file)) (codes "loge") four) ∙ ap Some same

-- no sector of the ring begins as an entry under an identifier that no place shows
no_head : (id file : List ℕ) (log len : ℕ) → len % 1048576 ≡ 0 → list_any (same_id id) (place_ids file log (len / 4096)) ≡ false → HasNoHead id (ring_of log len file)
unfolding bytes_at
no_head id file log len whole none p head =
    let short : length (take len (drop log file)) ≡ min len (length (drop log file)) = length-take len (drop log file) in
    let within : p < length (take len (drop log file)) = head.within in
    let at : p % 4096 ≡ 0 = head.at_sector in
    let inside : p < len = omega arith in
    let k : ℕ = p / 4096 in
    let same : 4096 * k ≡ p = omega arith in
    let below : k < len / 4096 = omega arith in
    let fits : p + 64 ≤ len = omega arith in
    let is : place_id file (log + 4096 * k) ≡ Some id = ap (λ (n : ℕ). place_id file (log + n)) same ∙ place_of_head id file log len p head fits in
    let differs : same_id id id ≡ false = no_place id file log (len / 4096) none k below id is in
    let never : true ≡ false = sym (eq_names id id refl) ∙ differs in
    absurd (true_false never)

-- ---- the leaf

-- with no pages the file is held as it is settled
no_pages : (bytes : List ℕ) → with_pages [] bytes ≡ bytes
unfolding with_pages with_updates
no_pages bytes = refl

-- an identifier that the file doesn't show lets its session begin
pub serve_fresh : (trace : Trace) (n : ℕ) (file : LinkedFile) (id : List ℕ) → IsAsOpened trace n file → IsServed file → is_zero_id id ≡ false → list_any (same_id id) (shown file.parts (seen (file_of trace n))) ≡ false → CanServe file.parts id n trace
serve_fresh trace n file id o numbered named mine =
    let bytes = seen (file_of trace n) in
    let h = file.parts.header in
    let same = (are_numbers o.reads.header bytes file.parts o.reads.numbers).1 in
    let heads = header_ids (held_header bytes 1) ++ header_ids (held_header bytes 2) in
    let places = place_ids bytes h.log_at (h.log_len / 4096) in
    let none = any_right (same_id id) heads places (any_left (same_id id) (heads ++ places) (locator_ids file.parts.locator) mine) in
    let held : bytes ≡ o.reads.settled = o.reads.is ∙ no_pages o.reads.settled in
    record {
      within = o.within;
      most = o.most;
      begins = record {
        synced = o.synced;
        unsealed = o.unsealed;
        head = subst (λ (x : Header). read_head bytes ≡ Ok x) (sym same) o.reads.head;
        settled = subst (λ (x : Header). Settles x bytes (Ok bytes)) (sym same) (subst (λ (s : List ℕ). Settles o.reads.header bytes (Ok s)) (sym held) o.reads.settles);
        named = named;
        fresh = no_head id bytes h.log_at h.log_len (megabytes h.log_len numbered.numbers.log.megabytes).0 none;
      };
      reads = o.reads;
    }

can_serve : (trace : Trace) (leaf : LinkedFile) (others : List LinkedFile) (known : List (List ℕ)) (ids : NewIds) → IsAsOpened trace 0 leaf → IsServed leaf → known ≡ shown_from trace 0 (leaf ∷ others)
    → first_unfit known (ids.file_write ∷ ids.data_write ∷ ids.log ∷ []) ≡ None → CanServe leaf.parts ids.log 0 trace
can_serve trace leaf others known ids o numbered is fit =
    let new = third_new known ids.file_write ids.data_write ids.log fit in
    let all : list_any (same_id ids.log) (shown leaf.parts (seen (file_of trace 0)) ++ shown_from trace 1 others) ≡ false = subst (λ k. list_any (same_id ids.log) k ≡ false) is new.1 in
    serve_fresh trace 0 leaf ids.log o numbered new.0 (any_left (same_id ids.log) (shown leaf.parts (seen (file_of trace 0))) (shown_from trace 1 others) all)

pub fresh : (files : List LinkedFile) (disk : Disk) (before now : Option (List (List ℕ))) (ids : NewIds) (leaf : LinkedFile) (others : List LinkedFile) → CanStart files disk → JudgesIds files disk before now None ids
    → files ≡ leaf ∷ others → WhereTold disk.told (CanServe leaf.parts ids.log 0)
fresh files disk before now ids leaf others can fit is = λ t told.
    let can' : CanStart (leaf ∷ others) disk = subst (λ (fs : List LinkedFile). CanStart fs disk) is can in
    can_serve t leaf others fit.known ids (can'.told t told).each.0 (can'.served 0 leaf (omega arith)) (fit.shown_are t told ∙ ap (shown_from t 0) is) fit.judged
