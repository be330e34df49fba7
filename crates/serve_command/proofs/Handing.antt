-- Readers of sealed files come back before the store does.
use Rattle.std.proofs.Common.{◌≡◌, ◌≢◌, ◌<◌, ◌≤◌, ◌++◌, ◌∷◌, ◌||◌, ℕ, zero, suc, Bool, true, false, List, [], length, map, Option, Some, None, Result, Ok, Result, refl, sym, ap, ap₂, subst, ◌∙◌, arith}
use Rattle.std.specs.Prelude.{IfErr, IfOk, is_some, nat_lt, option_map}
use Rattle.std.proofs.lemmas.Bool.{lt-ltb, ltb-true}
use Rattle.store_model.specs.Cause.{Rose}
use Rattle.store_model.specs.Disk.{Disk as StoreDisk, WhereTold}
use Rattle.store_model.specs.Folder.{HasFailed, Held, Hosted, KeepsStore, RoseWhere, given_back, without}
use Rattle.guest_model.specs.History.{History}
use Rattle.guest_model.specs.declared.refusal.ChainRefusal.{ChainRefusal}
use Rattle.link_rules.specs.Chains.{names_of}
use Rattle.chain_core.specs.Starting.{IsOfDisk}
use Rattle.link_rules.specs.declared.linked.Linked.{Linked}
use Rattle.link_rules.specs.declared.linked.LinkedFile.{LinkedFile}
use Rattle.script.specs.declared.form.Line.{Line}
use Rattle.serve_session.specs.Beginning.{Begins, IsScriptRun, IsUnsaid}
use Rattle.serve_session.specs.Endings.{Ending}
use Rattle.serve_session.specs.Served.{Asking, Outcome}
use Rattle.serve_session.specs.Serving.{HasServedScript}
use Rattle.serve_session.specs.declared.beginning.Begun.{Begun}
use Rattle.serve_session.specs.declared.merging.MergeRun.{MergeRun}
use Rattle.serve_session.specs.declared.sealing.Unserved.{Unserved}
use Rattle.serve_session.proofs.Beginnings.{script_told}
use Rattle.command_base.specs.Commands.{Lends}
use Rattle.serve_command.specs.Guests.{BeginsOver, HasServedBy, ServedWith, TellsAlike}
use Rattle.steps_command.specs.Sessions.{IsLinkedChain}
use Rattle.serve_command.proofs.ServedOver.{served_ran}

-- ---- lists that are taken from their end

pub popped : {B : Type 0} (whole all left : List B) (x : B) (gone : List B) → whole ≡ all ++ gone → all ≡ left ++ x ∷ [] → whole ≡ left ++ x ∷ gone
popped whole all left x gone whole_is is = whole_is ∙ ap (λ xs. xs ++ gone) is ∙ go left
  where
    go : (ys : List _) → (ys ++ x ∷ []) ++ gone ≡ ys ++ x ∷ gone
    go [] = refl
    go (y ∷ ys) = ap (λ t. y ∷ t) (go ys)

pub popped_of : {A B : Type 0} (k : A → B) (whole : List B) (all left : List A) (x : A) (gone : List B) → whole ≡ map k all ++ gone → all ≡ left ++ x ∷ [] → whole ≡ map k left ++ k x ∷ gone
popped_of k whole all left x gone whole_is is = popped whole (map k all) (map k left) (k x) gone whole_is (ap (map k) is ∙ go left)
  where
    go : (ys : List _) → map k (ys ++ x ∷ []) ≡ map k ys ++ k x ∷ []
    go [] = refl
    go (y ∷ ys) = ap (λ t. k y ∷ t) (go ys)

-- none is left
pub none_left : {A : Type 0} (xs : List A) (len : ℕ) → len ≡ length xs → len ≡ 0 → xs ≡ []
none_left [] len is none = refl
none_left (x ∷ xs) len is none = absurd (omega (arith, is, none))

-- ---- counts

positive : (n : ℕ) → n ≢ 0 → 0 < n
positive zero ne = absurd (ne refl)
positive (suc n) ne = omega arith

no_true : false ≡ true → ⊥
no_true e = let never : false ≡ true = e in cc

rose_through : (a b c : ℕ) → Rose a b → Rose b c → Rose a c
rose_through a b c h k = let r = h.risen in let l = k.later in record { later = let m = h.later in omega (arith, m, l); risen = omega (arith, r, l) }

-- a reader that counts none, or some
pub rose_failed : (failed b c : ℕ) → RoseWhere (failed ≢ 0) b c → RoseWhere (nat_lt 0 failed ≡ true) b c
rose_failed failed b c h = record {
  some = λ e. h.some (λ none. let less = ltb-true 0 failed e in absurd (omega (arith, less, none)));
  none = λ no. h.none (λ ne. no (lt-ltb 0 failed (positive failed ne)));
}

-- one more came back
pub rose_more : (one was : Bool) (a b c : ℕ) → RoseWhere (was ≡ true) a b → RoseWhere (one ≡ true) b c → RoseWhere ((one || was) ≡ true) a c
rose_more true was a b c h k = record { some = λ e. go was h (k.some refl); none = λ no. absurd (no refl) }
  where
    go : (was : Bool) → RoseWhere (was ≡ true) a b → Rose b c → Rose a c
    go true h r = rose_through a b c (h.some refl) r
    go false h r = subst (λ n. Rose n c) (h.none no_true) r
rose_more false was a b c h k = subst (λ n. RoseWhere (was ≡ true) a n) (sym (k.none no_true)) h

-- none has come back yet
pub rose_none : (a : ℕ) → RoseWhere (false ≡ true) a a
rose_none a = record { some = λ e. absurd (no_true e); none = λ no. refl }

-- it rose no further down
pub rose_later : (unread a b : ℕ) → RoseWhere (0 < unread) a b → a ≤ b
rose_later zero a b h = let same = h.none (λ less. absurd (omega (arith, less))) in omega (arith, same)
rose_later (suc n) a b h = (h.some (omega arith)).later

counted_as : (b : Bool) (unread a c : ℕ) → b ≡ nat_lt 0 unread → RoseWhere (b ≡ true) a c → RoseWhere (0 < unread) a c
counted_as b unread a c is h = record {
  some = λ less. h.some (is ∙ lt-ltb 0 unread less);
  none = λ no. h.none (λ e. no (ltb-true 0 unread (sym is ∙ e)));
}

-- what a folder without some files is told of is what it was
none_before : (f : List Held → List Held) (o : Option (List Held)) → option_map f o ≡ None → o ≡ None
none_before f None e = refl
none_before f (Some x) e = let never : Some (f x) ≡ None = e in cc

-- ---- over what was linked

module _ (merge : Option (List ℕ)) (linked : Linked) (old mid risen now : Hosted) (lent disk : StoreDisk) (before after : Option (List (List ℕ))) (chain : IsLinkedChain linked old) (lends : Lends (names_of linked.files) old mid lent) (failed : Bool)
    (folder : risen.folder ≡ mid.folder) (past : risen.past ≡ mid.past) (rose : RoseWhere (failed ≡ true) mid.faults risen.faults)
    (back_is : WhereTold disk.told (λ trace. now.folder ≡ option_map (given_back trace) risen.folder)) (past_is : KeepsStore disk risen now) (count : RoseWhere (HasFailed disk) risen.faults now.faults) where
  -- the folder that is away is told as it was
  lent_alike : mid.folder ≡ option_map (without (names_of linked.files)) old.folder
  lent_alike = ap (λ (h : Hosted). h.folder) lends.host_is

  back_alike : (risen.folder ≡ None → now.folder ≡ None) → (now.folder ≡ None → risen.folder ≡ None) → TellsAlike old.folder now.folder
  back_alike untold told = record {
    untold = λ none. untold (folder ∙ lent_alike ∙ ap (option_map (without (names_of linked.files))) none);
    told = λ none. none_before (without (names_of linked.files)) old.folder (sym (folder ∙ lent_alike) ∙ told none);
  }

  -- the host as if its readers had come back before it lent the files
  abbrev as_before : Hosted
  as_before = record old { faults = risen.faults }

  lends_then : Lends (names_of linked.files) as_before risen lent
  lends_then = record {
    disk_is = lends.disk_is;
    host_is = ap₂ (λ f p. record old { folder = f; past = p; faults = risen.faults }) (folder ∙ ap (λ (h : Hosted). h.folder) lends.host_is) (past ∙ ap (λ (h : Hosted). h.past) lends.host_is);
  }

  chain_then : IsLinkedChain linked as_before
  chain_then = record { idle = chain.idle; few = chain.few; once = chain.once; served = chain.served; line = chain.line; chain = chain.chain }

  rose_before : RoseWhere (failed ≡ true) old.faults risen.faults
  rose_before = subst (λ n. RoseWhere (failed ≡ true) n risen.faults) (ap (λ (h : Hosted). h.faults) lends.host_is) rose

  pub back_ran : (risen.folder ≡ None → now.folder ≡ None) → (now.folder ≡ None → risen.folder ≡ None) → (asking : Asking) (guests : List (List Outcome)) (history : History) (ending : Ending) (merged : Result (Unit {0}) ChainRefusal)
      → failed ≡ nat_lt 0 ending.unread → (merge ≡ None → IfErr merged (λ e. ⊥)) → HasServedBy merge linked.files lent before after asking guests history ending merged disk → ServedWith merge linked asking guests history ending merged old now before after
  back_ran untold told asking guests history ending merged back none ran = record {
    tells = back_alike untold told;
    faults = risen.faults;
    readers = counted_as failed ending.unread old.faults risen.faults back rose_before;
    over = served_ran merge linked as_before risen lent disk before after chain_then lends_then asking guests history ending merged now back_is past_is count none ran;
  }

-- ---- a session that began over it

-- the files were read as a slice
pub begins_over : {S T : Type 0} (disk : S → StoreDisk) (merge : Option (List ℕ)) (guests workers : ℕ) (linked : Linked) (files : List LinkedFile) (old mid : Hosted) (before now : Option (List (List ℕ))) (lent : StoreDisk) (begun : Result (Begun S T) (Unserved S T))
    → files ≡ linked.files → Lends (names_of files) old mid lent → Begins disk (is_some merge) guests workers (HasServedBy merge files lent before now) begun → IfOk begun (λ b. IsOfDisk files b.chain.first.layers.geometry)
    → BeginsOver disk merge guests workers linked old mid before now begun
begins_over disk merge guests workers linked files old mid before now lent begun same lends begins size = record {
  lent = lent;
  lends = subst (λ (fs : List LinkedFile). Lends (names_of fs) old mid lent) same lends;
  begins = subst (λ fs. Begins disk (is_some merge) guests workers (HasServedBy merge fs lent before now) begun) same begins;
  size = subst (λ fs. IfOk begun (λ b. IsOfDisk fs b.chain.first.layers.geometry)) same size;
}

-- without a merge its run is so however the merge is told
pub loose_by : (merge : Option (List ℕ)) (files : List LinkedFile) (lent : StoreDisk) (before now : Option (List (List ℕ))) → is_some merge ≡ false → (asking : Asking) (told : List (List Outcome)) (history : History) (end : Ending) (m n : Result (Unit {0}) ChainRefusal) (after : StoreDisk)
    → HasServedBy merge files lent before now asking told history end m after → HasServedBy merge files lent before now asking told history end n after
loose_by None files lent before now is asking told history end m n after h = h
loose_by (Some name) files lent before now is asking told history end m n after h = let never : true ≡ false = is in cc

-- the guests of a script over it
pub script_run : {S T : Type 0} (disk : S → StoreDisk) (merge : Option (List ℕ)) (guests workers : ℕ) (linked : Linked) (old mid : Hosted) (before now : Option (List (List ℕ))) (begun : Result (Begun S T) (Unserved S T)) (b : BeginsOver disk merge guests workers linked old mid before now begun)
    (some : Bool) (names : List (List ℕ)) (lines : List Line) (run : MergeRun) (after : StoreDisk) → some ≡ is_some merge → IfOk begun (λ x. HasServedScript disk some x.chain.first names lines run after)
    → IfErr begun (λ left. IsUnsaid some left.met left.closed run × (after ≡ disk left.store)) → IsScriptRun (HasServedBy merge linked.files b.lent before now) names lines run after
script_run disk merge guests workers linked old mid before now begun b some names lines run after same served unserved =
    script_told disk (is_some merge) guests workers (HasServedBy merge linked.files b.lent before now) (loose_by merge linked.files b.lent before now) names lines run after begun b.begins
    (subst (λ m. IfOk begun (λ x. HasServedScript disk m x.chain.first names lines run after)) same served) (subst (λ m. IfErr begun (λ left. IsUnsaid m left.met left.closed run × (after ≡ disk left.store))) same unserved)

-- what is merged is told as finished where there is no merge
pub none_stops : (merge : Option (List ℕ)) (some : Bool) (merged : Result (Unit {0}) ChainRefusal) → some ≡ is_some merge → (some ≡ false → merged ≡ Ok tt) → merge ≡ None → IfErr merged (λ e. ⊥)
none_stops merge some merged same without none = subst (λ r. IfErr r (λ e. ⊥)) (sym (without (same ∙ ap is_some none))) tt

pub mapped : (names : List (List ℕ)) → map (λ n. n) names ≡ names
mapped [] = refl
mapped (n ∷ names) = ap (λ ns. n ∷ ns) (mapped names)
