-- Phases of a chain's files, one file after another, with nothing loose: from each image of each moment the leaf's name is opened to
-- one disk.
use Rattle.std.proofs.Common.{◌≡◌, ◌≢◌, ◌⊎◌, ℕ, Bool, false, List, [], ◌∷◌, ◌++◌, map, refl, sym, ap, subst, ◌∙◌}
use Rattle.std.specs.List.{AllByRecursion}
use Rattle.store_model.specs.Trace.{EachMoment, Trace}
use Rattle.store_model.proofs.Spans.{EachMoment-join}
use Rattle.guest_model.specs.Calls.{Disk}
use Rattle.chain_model.specs.Layers.{Same}
use Rattle.chain_model.specs.Images.{NoneLoose, Placed, members_of}
use Rattle.chain_model.specs.Members.{IsChain, IsChainOf, Member, Way}
use Rattle.chain_model.specs.Moments.{EachOpens}
use Rattle.chain_model.specs.PhaseLaws.{IsNamedOnce, Survives}
use Rattle.chain_model.specs.Sessions.{GoesOver, HasGoneOver, IsServed, LooseAtTop, ShowsFile}
use Rattle.chain_model.proofs.Linking.{files_may_change, lower_part_is_chain}
use Rattle.chain_model.proofs.Phasing.{file_goes_over, members_append}
use Rattle.layer_session.specs.Calls.{IsBeside}
use Rattle.layer_session.specs.Keeping.{Serves}
use Rattle.layer_session.specs.declared.file.Layer.{Layer}
use Rattle.layer_session.proofs.Standing.{layers_stand}
use Rattle.chain_core.proofs.Steps.{phase_beside, still_once}

-- ---- what links a chain

-- a first file that says the same of its parent
pub same_first : (x y : Member) (b : List Member) → y.ties.parent ≡ x.ties.parent → y.ties.locator ≡ x.ties.locator → y.ties.geometry ≡ x.ties.geometry → IsChain (x ∷ b) → IsChain (y ∷ b)
same_first x y [] parent locator geometry h = parent ∙ h
same_first x y (p ∷ b) parent locator geometry h =
    (record { has = parent ∙ h.0.has; item = h.0.item; locator = locator ∙ h.0.locator; pairs = h.0.pairs; read = h.0.read; named = h.0.named; linked = h.0.linked; geometry = h.0.geometry ∙ sym geometry }, h.1)

-- a file of it that its child sees as before
pub chain_with : (leaf : List ℕ) (a : List Placed) (x y : Placed) (b : List Placed) → IsChainOf leaf [] (members_of (a ++ x ∷ b)) → y.member.name ≡ x.member.name → y.member.ties.id ≡ x.member.ties.id
    → y.member.ties.geometry ≡ x.member.ties.geometry → y.member.ties.retired ≡ x.member.ties.retired → (IsChain (x.member ∷ members_of b) → IsChain (y.member ∷ members_of b)) → IsChainOf leaf [] (members_of (a ++ y ∷ b))
chain_with leaf [] x y b chain name id geometry retired linked = files_may_change.leaf leaf [] x.member y.member (members_of b) (members_of b) chain (sym name) (sym retired) refl (linked chain.linked)
chain_with leaf (p ∷ a) x y b chain name id geometry retired linked =
    let parted : IsChainOf leaf [] (p.member ∷ members_of a ++ (x.member ∷ members_of b)) = subst (λ (c : List Member). IsChainOf leaf [] (p.member ∷ c)) (members_append a (x ∷ b)) chain in
    subst (λ (c : List Member). IsChainOf leaf [] (p.member ∷ c)) (sym (members_append a (y ∷ b)))
    (files_may_change.lower leaf [] p.member (members_of a) x.member y.member (members_of b) (members_of b) parted (record { name = sym name; id = sym id; geometry = sym geometry }) refl
    (linked (lower_part_is_chain (p.member ∷ members_of a) x.member (members_of b) parted.linked)))

-- its leaf, which no file of it looks at
pub chain_top : (leaf : List ℕ) (x y : Placed) (b : List Placed) → IsChainOf leaf [] (members_of (x ∷ b)) → y.member.name ≡ x.member.name → y.member.ties.parent ≡ x.member.ties.parent → y.member.ties.locator ≡ x.member.ties.locator
    → y.member.ties.geometry ≡ x.member.ties.geometry → y.member.ties.retired ≡ x.member.ties.retired → IsChainOf leaf [] (members_of (y ∷ b))
chain_top leaf x y b chain name parent locator geometry retired =
    files_may_change.leaf leaf [] x.member y.member (members_of b) (members_of b) chain (sym name) (sym retired) refl (same_first x.member y.member (members_of b) parent locator geometry chain.linked)

-- a file of it that is new to its child, which is linked to it
pub chain_below : (leaf : List ℕ) (top : Placed) (a : List Placed) (child x y : Placed) (b : List Placed) → IsChainOf leaf [] (members_of ((top ∷ a) ++ child ∷ x ∷ b)) → y.member.name ≡ x.member.name
    → (IsChain (child.member ∷ x.member ∷ members_of b) → IsChain (child.member ∷ y.member ∷ members_of b)) → IsChainOf leaf [] (members_of ((top ∷ a) ++ child ∷ y ∷ b))
chain_below leaf top a child x y b chain name linked =
    let parted : IsChainOf leaf [] (top.member ∷ members_of a ++ (child.member ∷ x.member ∷ members_of b)) = subst (λ (c : List Member). IsChainOf leaf [] (top.member ∷ c)) (members_append a (child ∷ x ∷ b)) chain in
    subst (λ (c : List Member). IsChainOf leaf [] (top.member ∷ c)) (sym (members_append a (child ∷ y ∷ b)))
    (files_may_change.lower leaf [] top.member (members_of a) child.member child.member (x.member ∷ members_of b) (y.member ∷ members_of b) parted (record { name = refl; id = refl; geometry = refl })
    (ap (λ (n : List ℕ). n ∷ map (λ (f : Member). f.name) (members_of b)) (sym name))
    (linked (lower_part_is_chain (top.member ∷ members_of a) child.member (x.member ∷ members_of b) parted.linked)))

-- ---- nothing is loose

pub tight : (among : ℕ → Bool) (chain : List Placed) → ((s : ℕ) → NoneLoose s chain) → LooseAtTop among chain
tight among [] none = tt
tight among (p ∷ chain) none = ((λ s out. (none s).0), (λ s. (none s).1))

none_with : (a : List Placed) (x y : Placed) (b : List Placed) → ((s : ℕ) → y.is_loose s ≡ false) → ((s : ℕ) → NoneLoose s (a ++ x ∷ b)) → (s : ℕ) → NoneLoose s (a ++ y ∷ b)
none_with [] x y b own none s = (own s, (none s).1)
none_with (p ∷ a) x y b own none s = ((none s).0, none_with a x y b own (λ k. (none k).1) s)

-- ---- what was reached

-- a file and the layer that serves it
pub record Pair : Type 0 where
  pub layer : Layer
  pub file : Placed

-- of the store's files none but these was changed
abbrev pub Left : List ℕ → Trace → Trace → Type 0
Left numbers began trace = (k : ℕ) → AllByRecursion (λ n. k ≢ n) numbers → IsBeside k began trace

-- The chain is served with its opening disk, these layers serve their files, and each moment since the beginning opened.
pub record Reached (z : ℕ) (opening : Disk) (leaf : Way) (chain : List Placed) (numbers : List ℕ) (pairs : List Pair) (began trace : Trace) : Type 0 where
  pub once : IsNamedOnce trace
  pub served : IsServed z opening [] leaf [] chain trace
  pub none : (s : ℕ) → NoneLoose s chain
  pub moments : EachMoment (EachOpens leaf (λ s. false) opening) began trace
  pub left : Left numbers began trace
  pub serving : AllByRecursion (λ (p : Pair). Serves p.layer trace p.file) pairs

-- each moment opened, whatever was answered, and of the store's files none but these was changed
pub record Opened (opening : Disk) (leaf : Way) (numbers : List ℕ) (began trace : Trace) : Type 0 where
  pub moments : EachMoment (EachOpens leaf (λ s. false) opening) began trace
  pub left : Left numbers began trace

pub opened : (z : ℕ) (opening : Disk) (leaf : Way) (chain : List Placed) (numbers : List ℕ) (pairs : List Pair) (began trace : Trace) → Reached z opening leaf chain numbers pairs began trace → Opened opening leaf numbers began trace
opened z opening leaf chain numbers pairs began trace r = record { moments = r.moments; left = r.left }

beside_join : (k : ℕ) (a b c : Trace) → IsBeside k a b → IsBeside k b c → IsBeside k a c
beside_join k a b c first second = record { same = second.same ∙ first.same; names = second.names ∙ first.names }

-- one with no layers, or fewer
pub fewer : (z : ℕ) (opening : Disk) (leaf : Way) (chain : List Placed) (numbers : List ℕ) (pair : Pair) (pairs : List Pair) (began trace : Trace) → Reached z opening leaf chain numbers (pair ∷ pairs) began trace
    → Reached z opening leaf chain numbers pairs began trace
fewer z opening leaf chain numbers pair pairs began trace r = record { once = r.once; served = r.served; none = r.none; moments = r.moments; left = r.left; serving = r.serving.1 }

-- and with others
pub with_pairs : (z : ℕ) (opening : Disk) (leaf : Way) (chain : List Placed) (numbers : List ℕ) (pairs others : List Pair) (began trace : Trace) → AllByRecursion (λ (p : Pair). Serves p.layer trace p.file) others
    → Reached z opening leaf chain numbers pairs began trace → Reached z opening leaf chain numbers others began trace
with_pairs z opening leaf chain numbers pairs others began trace serving r = record { once = r.once; served = r.served; none = r.none; moments = r.moments; left = r.left; serving = serving }

-- and one more
pub one_more_pair : (z : ℕ) (opening : Disk) (leaf : Way) (chain : List Placed) (numbers : List ℕ) (l : Layer) (file : Placed) (pairs : List Pair) (began trace : Trace) → Serves l trace file → Reached z opening leaf chain numbers pairs began trace
    → Reached z opening leaf chain numbers (record { layer = l; file = file } ∷ pairs) began trace
one_more_pair z opening leaf chain numbers l file pairs began trace serves r = record { once = r.once; served = r.served; none = r.none; moments = r.moments; left = r.left; serving = (serves, r.serving) }

-- a phase of one of the files
module _ (z : ℕ) (opening : Disk) (leaf : Way) (a : List Placed) (x y : Placed) (b : List Placed) (numbers : List ℕ) (pairs : List Pair) (began old new : Trace)
    (r : Reached z opening leaf (a ++ x ∷ b) numbers pairs began old) (over : GoesOver x y old new) (same : Same x.member.layer y.member.layer) (geometry : x.member.ties.geometry ≡ y.member.ties.geometry)
    (own : (s : ℕ) → y.is_loose s ≡ false) (linked : IsChainOf leaf.name [] (members_of (a ++ y ∷ b))) where
  survives : Survives z opening [] leaf (λ s. false) y [] (a ++ y ∷ b) old new
  survives = file_goes_over z opening [] leaf (λ s. false) [] a x y b old new r.once r.served over same geometry linked (tight (λ s. false) (a ++ x ∷ b) r.none) (tight (λ s. false) (a ++ y ∷ b) (none_with a x y b own r.none))

  left_on : Left (x.number ∷ numbers) began new
  left_on k ne = beside_join k began old new (r.left k ne.1) (phase_beside x.number (λ bytes. ShowsFile x bytes ⊎ ShowsFile y bytes) old new over.phase k ne.0)

  pub phase_opens : Opened opening leaf (x.number ∷ numbers) began new
  phase_opens = record { moments = EachMoment-join (EachOpens leaf (λ s. false) opening) began old new r.moments survives.moments; left = left_on }

  still : (ps : List Pair) → AllByRecursion (λ (p : Pair). p.file.number ≢ x.number) ps → AllByRecursion (λ (p : Pair). Serves p.layer old p.file) ps → AllByRecursion (λ (p : Pair). Serves p.layer new p.file) ps
  still [] ne all = tt
  still (p ∷ ps) ne all = (layers_stand.beside p.layer old new p.file all.0 (phase_beside x.number (λ bytes. ShowsFile x bytes ⊎ ShowsFile y bytes) old new over.phase p.file.number ne.0), still ps ne.1 all.1)

  pub phase_reaches : AllByRecursion (λ (p : Pair). p.file.number ≢ x.number) pairs → HasGoneOver y new → Reached z opening leaf (a ++ y ∷ b) (x.number ∷ numbers) pairs began new
  phase_reaches ne gone = record {
    once = still_once x.number (λ bytes. ShowsFile x bytes ⊎ ShowsFile y bytes) old new over.phase r.once;
    served = survives.served gone;
    none = none_with a x y b own r.none;
    moments = phase_opens.moments;
    left = left_on;
    serving = still pairs ne r.serving;
  }
