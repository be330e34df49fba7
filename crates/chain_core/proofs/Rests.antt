-- A chain without a merge and one with a merge under way, alike.
use Rattle.std.proofs.Common.{◌≡◌, ℕ, Bool, false, List, [], ◌∷◌, ◌++◌, ◌∙◌, ap, sym}
use Rattle.store_model.specs.Trace.{Trace}
use Rattle.guest_model.specs.declared.call.Entry.{Entry}
use Rattle.guest_model.specs.Calls.{Disk}
use Rattle.guest_model.specs.History.{History, is_dirty, replay}
use Rattle.chain_model.specs.Layers.{Layer as SectorLayer, Same, with_call}
use Rattle.chain_model.specs.Members.{IsChainOf, disk_of, Way, names_of}
use Rattle.chain_model.specs.Images.{Placed, members_of}
use Rattle.chain_model.specs.Moments.{EachOpens}
use Rattle.chain_model.specs.Sessions.{GoesOver, IsServed, LeavesLoose, LooseInMerge}
use Rattle.chain_model.specs.PhaseLaws.{CallSurvives, IsNamedOnce, LeafCall, Survives}
use Rattle.chain_model.proofs.Calling.{calls_survive}
use Rattle.chain_model.proofs.Linking.{alike_self, disks_of_chains, ties_keep_chain, by_names}
use Rattle.chain_model.proofs.Phasing.{file_goes_over, kept_behind, opens_merging, served_before, served_beside}
use Rattle.chain_model.proofs.MergePhasing.{above_goes_over}
use Rattle.chain_model.proofs.Serving.{loose_is_dirty, phases_open, served_chains_open}
use Rattle.chain_core.specs.States.{IsLoose, Rest, others_of, plain, merging, retiring}

-- ---- what is loose

pub top_loose : (d : ℕ → Bool) (top : Placed) (rest : Rest) → IsLoose d top rest → (s : ℕ) → d s ≡ false → top.is_loose s ≡ false
top_loose d top (plain others) loose s clean = loose.0 s clean
top_loose d top (merging above source target below m) loose s clean = loose.others.0 s clean
top_loose d top (retiring target below first before) loose s clean = loose.others.0 s clean

-- with another leaf, which has the same layer, and of which no sector is loose outside these
pub new_top : (d e : ℕ → Bool) (top new : Placed) (rest : Rest) → new.member.layer ≡ top.member.layer → IsLoose d top rest → ((s : ℕ) → e s ≡ false → new.is_loose s ≡ false) → IsLoose e new rest
new_top d e top new (plain others) same loose tight = (tight, loose.1)
new_top d e top new (merging above source target below m) same loose tight = record { others = (tight, loose.others.1); owned = loose.owned }
new_top d e top new (retiring target below first before) same loose tight = record { others = (tight, loose.others.1); owned = λ s none. loose.owned s (ap (λ (l : SectorLayer). l s) (sym same) ∙ none) }

pub loose_after : (z : ℕ) (h : History) (e : Entry) (top new : Placed) (rest : Rest) → LeavesLoose z e top new → Same new.member.layer (with_call z e.call top.member.layer) → IsLoose (is_dirty z h) top rest → IsLoose (is_dirty z (h ++ e ∷ [])) new rest
loose_after z h e top new (plain others) leaves layer loose = loose_is_dirty.settled z h e top new others leaves loose
loose_after z h e top new (merging above source target below m) leaves layer loose = loose_is_dirty.above z h e top new above source target below leaves loose
loose_after z h e top new (retiring target below first before) leaves layer loose = loose_is_dirty.source z h e top new target below leaves layer loose

-- ---- what the leaf does

pub call_survives : (z : ℕ) (opening : Disk) (h : History) (e : Entry) (leaf : Way) (dirty is_loose : ℕ → Bool) (retired : List Placed) (top new : Placed) (rest : Rest) (old now : Trace)
    → IsNamedOnce old → IsServed z opening h leaf retired (top ∷ others_of rest) old → LeafCall z e dirty is_loose top new old now
    → IsLoose dirty top rest → CallSurvives z opening h e leaf dirty new retired (new ∷ others_of rest) old now
call_survives z opening h e leaf dirty is_loose retired top new (plain others) old now once served call loose =
    calls_survive.settled z opening h e leaf dirty is_loose retired top new others old now once served call loose
call_survives z opening h e leaf dirty is_loose retired top new (merging above source target below m) old now once served call loose =
    calls_survive.above z opening h e leaf dirty is_loose retired top new above source target below old now once served call loose
call_survives z opening h e leaf dirty is_loose retired top new (retiring target below first before) old now once served call loose =
    calls_survive.source z opening h e leaf dirty is_loose retired top new target below old now once served call loose

-- the source of a merge goes over to itself, with other sectors loose
pub source_goes_over : (z : ℕ) (opening : Disk) (h : History) (leaf : Way) (among : ℕ → Bool) (retired : List Placed) (before after target : Placed) (below : List Placed) (old now : Trace)
    → IsNamedOnce old → IsServed z opening h leaf retired (before ∷ target ∷ below) old → GoesOver before after old now
    → Same before.member.layer after.member.layer → before.member.ties ≡ after.member.ties
    → LooseInMerge among [] before target below → LooseInMerge among [] after target below → Survives z opening h leaf among after retired (after ∷ target ∷ below) old now
source_goes_over z opening h leaf among retired before after target below old now once served over same ties loose_before loose_then =
    let rest : List Placed = target ∷ below in
    let kept = served_before z opening h leaf retired [] before rest old served in
    let first = served_beside z opening h leaf retired [] before before rest old served in
    let second = served_beside z opening h leaf retired [] before after rest old served in
    let is : IsChainOf leaf.name (members_of retired) (after.member ∷ members_of rest) =
    ties_keep_chain leaf.name (members_of retired) (before.member ∷ members_of rest) (members_of retired) (after.member ∷ members_of rest) served.linked (alike_self (members_of retired))
    (record { name = sym over.one_name; ties = ties }, alike_self (members_of rest)) in
    let disk : disk_of (after.member ∷ members_of rest) ≡ replay z opening h = disks_of_chains.tied [] before.member after.member (members_of rest) (ap (λ t. t.geometry) ties) same ∙ served.disk in
    let by = by_names leaf (before.member ∷ members_of rest) (after.member ∷ members_of rest) (ap (λ n. n ∷ names_of (members_of rest)) (sym over.one_name)) served.by in
    record {
      moments = phases_open before after old now leaf among (replay z opening h) (retired ++ (before ∷ rest)) (retired ++ (after ∷ rest)) over kept first second
          (opens_merging leaf among retired [] before target below (replay z opening h) old once served.linked served.by loose_before served.disk) (opens_merging leaf among retired [] after target below (replay z opening h) old once is by loose_then disk);
      served = λ done. record { linked = is; by = by; kept = kept_behind before after old now (retired ++ (after ∷ rest)) over done kept second; disk = disk };
    }

-- it goes over to itself, with other sectors loose
pub leaf_survives : (z : ℕ) (opening : Disk) (h : History) (leaf : Way) (among : ℕ → Bool) (retired : List Placed) (before after : Placed) (rest : Rest) (old now : Trace)
    → IsNamedOnce old → IsServed z opening h leaf retired (before ∷ others_of rest) old → GoesOver before after old now
    → Same before.member.layer after.member.layer → before.member.ties ≡ after.member.ties
    → IsLoose among before rest → IsLoose among after rest → Survives z opening h leaf among after retired (after ∷ others_of rest) old now
leaf_survives z opening h leaf among retired before after (plain others) old now once served over same ties loose_before loose_after =
    file_goes_over z opening h leaf among retired [] before after others old now once served over same (ap (λ t. t.geometry) ties)
    (ties_keep_chain leaf.name (members_of retired) (before.member ∷ members_of others) (members_of retired) (after.member ∷ members_of others) served.linked (alike_self (members_of retired))
    (record { name = sym over.one_name; ties = ties }, alike_self (members_of others))) loose_before loose_after
leaf_survives z opening h leaf among retired before after (merging above source target below m) old now once served over same ties loose_before loose_after =
    above_goes_over z opening h leaf among retired [] before after above source target below old now once served over same ties loose_before loose_after
leaf_survives z opening h leaf among retired before after (retiring target below first m) old now once served over same ties loose_before loose_after =
    source_goes_over z opening h leaf among retired before after target below old now once served over same ties loose_before loose_after

-- ---- what a crash leaves

pub opens_now : (z : ℕ) (opening : Disk) (h : History) (leaf : Way) (among : ℕ → Bool) (retired : List Placed) (top : Placed) (rest : Rest) (trace : Trace)
    → IsNamedOnce trace → IsServed z opening h leaf retired (top ∷ others_of rest) trace → IsLoose among top rest → EachOpens leaf among (replay z opening h) trace
opens_now z opening h leaf among retired top (plain others) trace once served loose = served_chains_open.settled z opening h leaf among retired (top ∷ others) trace once served loose
opens_now z opening h leaf among retired top (merging above source target below m) trace once served loose =
    served_chains_open.merging z opening h leaf among retired (top ∷ above) source target below trace once served loose
opens_now z opening h leaf among retired top (retiring target below first before) trace once served loose =
    served_chains_open.merging z opening h leaf among retired [] top target below trace once served loose
