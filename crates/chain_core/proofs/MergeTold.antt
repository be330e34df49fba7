-- The phases that prepare a merge, where a store may tell its content or not.
use Rattle.std.proofs.Common.{◌≡◌, ℕ, zero, suc, ◌+◌, ◌<◌, ◌≤◌, false, All, List, [], ◌∷◌, ◌++◌, length, get_or, refl, ap, subst, ◌∙◌, arith}
use Rattle.std.specs.Prelude.{Option, Some, None}
use Rattle.std.specs.List.{AllByRecursion, list_any}
use Rattle.std.proofs.lemmas.Bool.{or_parts}
use Rattle.std.proofs.lemmas.List.{length-append}
use Rattle.vhdx_format.specs.Fields.{is_zero_id, same_id}
use Rattle.store_model.specs.Disk.{Disk, WhereBothTold, WhereTold}
use Rattle.store_model.specs.File.{seen}
use Rattle.store_model.specs.Trace.{Trace, file_of}
use Rattle.link_rules.specs.Effects.{IsServed}
use Rattle.link_rules.specs.declared.linked.LinkedFile.{LinkedFile}
use Rattle.layer_session.specs.Begins.{CanServe}
use Rattle.make_file.specs.Identifiers.{first_unfit, is_unfit}
use Rattle.shown_ids.specs.Shown.{shown}
use Rattle.merge_plan.specs.Attached as plan
use Rattle.merge_plan.specs.Drawing.{JudgesDrawn}
use Rattle.merge_plan.specs.Merging.{MergeFiles}
use Rattle.chain_core.specs.MergeStarting.{chain_files}
use Rattle.merge_plan.specs.Attached.{AreAsOpened, BeginsInUse, CanStart, IsAsOpened}
use Rattle.chain_core.proofs.Beginning.{by_recursion}
use Rattle.chain_core.proofs.Fresh.{any_left, any_right, serve_fresh}
use Rattle.chain_core.proofs.MergeFound.{AreFound, IsFound}
use Rattle.merge_plan.proofs.Planned.{opened_below, passed}
use Rattle.layer_session.proofs.Equal.{none_some, some_same}

-- ---- one stretch behind another

-- with what is known of the first moment
pub told_from : {T : Type 0} (P : T → Type 0) (R Q : T → T → Type 0) → ((a b : T) → P a → R a b → Q a b) → (x y : Option T) → WhereTold x P → WhereBothTold R x y → WhereBothTold Q x y
told_from P R Q f None None p r = tt
told_from P R Q f None (Some b) p r = r
told_from P R Q f (Some a) None p r = r
told_from P R Q f (Some a) (Some b) p r = f a b (p a refl) r

-- of the last moment
pub told_last : {T : Type 0} (R : T → T → Type 0) (Q : T → Type 0) → ((a b : T) → R a b → Q b) → (x y : Option T) → WhereBothTold R x y → WhereTold y Q
told_last {T} R Q f None None r t is = let never : ◌≡◌ {A = Option T} None (Some t) = is in absurd (none_some never)
told_last R Q f None (Some b) r t is = absurd r
told_last R Q f (Some a) None r t is = absurd r
told_last R Q f (Some a) (Some b) r t is = subst Q (some_same is) (f a b r)

pub told_self : {T : Type 0} (Q : T → T → Type 0) → ((a : T) → Q a a) → (x : Option T) → WhereBothTold Q x x
told_self Q f None = tt
told_self Q f (Some a) = f a

-- ---- files that may be started, in the words of the plan

opened_plan : (t : Trace) (n : ℕ) (f : LinkedFile) → IsAsOpened t n f → plan.IsAsOpened t n f
opened_plan t n f o = record { within = o.within; name = o.name; synced = o.synced; unsealed = o.unsealed; most = o.most; reads = o.reads }

all_plan : (t : Trace) (n : ℕ) (files : List LinkedFile) → AreAsOpened t n files → plan.AreAsOpened t n files
all_plan t n [] o = tt
all_plan t n (f ∷ files) o = (opened_plan t n f o.0, all_plan t (n + 1) files o.1)

in_use_plan : (files : List LinkedFile) → BeginsInUse files → plan.BeginsInUse files
in_use_plan [] b = tt
in_use_plan (f ∷ files) b = b

pub can_plan : (files : List LinkedFile) (disk : Disk) → CanStart files disk → plan.CanStart files disk
can_plan files disk can = record {
  few = can.few;
  there = can.there;
  line = can.line;
  once = can.once;
  served = can.served;
  told = λ t told. let a = can.told t told in record { once = a.once; in_use = in_use_plan files a.in_use; each = all_plan t 0 files a.each };
}

pub is_found : (files : List LinkedFile) (disk : Disk) → CanStart files disk → WhereTold disk.told (λ t. IsFound t files)
is_found files disk can t told = record { attached = can.told t told; line = can.line; names = can.once; few = can.few; numbered = by_recursion IsServed files can.served }

pub are_found : (m : MergeFiles) (disk : Disk) → CanStart (chain_files m) disk → WhereTold disk.told (λ t. AreFound t m)
are_found m disk can = is_found (chain_files m) disk can

-- ---- identifiers that are fit

all_new : (known ids : List (List ℕ)) → first_unfit known ids ≡ None → All (λ id. (is_zero_id id ≡ false) × (list_any (same_id id) known ≡ false)) ids
all_new known [] h k d l = absurd (omega (arith, l))
all_new known (id ∷ ids) h zero d l = or_parts (is_zero_id id) (list_any (same_id id) known) (passed (is_unfit known id) id (first_unfit (id ∷ known) ids) h).0
all_new known (id ∷ ids) h (suc k) d l =
    let later = all_new (id ∷ known) ids (passed (is_unfit known id) id (first_unfit (id ∷ known) ids) h).1 k d (omega (arith, l)) in
    (later.0, (or_parts (same_id (get_or ids k d) id) (list_any (same_id (get_or ids k d)) known) later.1).1)

shown_split : (t : Trace) (n : ℕ) (above : List LinkedFile) (file : LinkedFile) (rest : List LinkedFile) (id : List ℕ) → list_any (same_id id) (plan.shown_from t n (above ++ file ∷ rest)) ≡ false
    → list_any (same_id id) (shown file.parts (seen (file_of t (n + length above)))) ≡ false
shown_split t n [] file rest id none =
    let same : n ≡ n + 0 = omega arith in
    subst (λ (k : ℕ). list_any (same_id id) (shown file.parts (seen (file_of t k))) ≡ false) same (any_left (same_id id) (shown file.parts (seen (file_of t n))) (plan.shown_from t (n + 1) rest) none)
shown_split t n (f ∷ above) file rest id none =
    let same : n + 1 + length above ≡ n + suc (length above) = omega arith in
    subst (λ (k : ℕ). list_any (same_id id) (shown file.parts (seen (file_of t k))) ≡ false) same
    (shown_split t (n + 1) above file rest id (any_right (same_id id) (shown f.parts (seen (file_of t n))) (plan.shown_from t (n + 1) (above ++ file ∷ rest)) none))

-- a file of the chain, at its place
module _ (disk : Disk) (files above : List LinkedFile) (file : LinkedFile) (rest : List LinkedFile) (can : CanStart files disk) (is : files ≡ above ++ file ∷ rest) where
  at_place : (t : Trace) → disk.told ≡ Some t → IsAsOpened t (length above) file
  at_place t told =
      let same : 0 + length above ≡ length above = omega arith in
      subst (λ (k : ℕ). IsAsOpened t k file) same (opened_below t 0 above (file ∷ rest) (subst (AreAsOpened t 0) is (can.told t told).each)).0

  pub served_at : IsServed file
  served_at = all_there above (by_recursion IsServed (above ++ file ∷ rest) (subst (All IsServed) is can.served))
    where
      all_there : (a : List LinkedFile) → AllByRecursion IsServed (a ++ file ∷ rest) → IsServed file
      all_there [] all = all.0
      all_there (x ∷ a) all = all_there a all.1

  pub there_at : length above < disk.files
  there_at = let there : length (above ++ file ∷ rest) ≤ disk.files = subst (λ (fs : List LinkedFile). length fs ≤ disk.files) is can.there in omega (arith, there, length-append above (file ∷ rest))

  pub fresh_at : (ids : List (List ℕ)) (k : ℕ) → JudgesDrawn files disk ids None → k < length ids → WhereTold disk.told (CanServe file.parts (get_or ids k []) (length above))
  fresh_at ids k fit less t told =
      let new = all_new fit.known ids fit.judged k [] less in
      let id : List ℕ = get_or ids k [] in
      let none : list_any (same_id id) (plan.shown_from t 0 (above ++ file ∷ rest)) ≡ false = subst (λ (x : List (List ℕ)). list_any (same_id id) x ≡ false) (fit.shown_are t told ∙ ap (plan.shown_from t 0) is) new.1 in
      let same : 0 + length above ≡ length above = omega arith in
      serve_fresh t (length above) file id (at_place t told) served_at new.0 (subst (λ (n : ℕ). list_any (same_id id) (shown file.parts (seen (file_of t n))) ≡ false) same (shown_split t 0 above file rest id none))
