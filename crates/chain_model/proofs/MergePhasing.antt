-- Phases while a merge of files below the leaf is under way.
use Rattle.std.proofs.Common.{◌≡◌, List, ◌∷◌, ◌++◌, sym, ap, subst, ◌∙◌}
use Rattle.std.specs.List.{AllByRecursion}
use Rattle.std.proofs.lemmas.List.{append_assoc}
use Rattle.guest_model.specs.History.{replay}
use Rattle.chain_model.specs.Members.{IsChainOf, disk_of}
use Rattle.chain_model.specs.Images.{Placed, members_of}
use Rattle.chain_model.specs.Sessions.{IsOrIsBeside, IsServed}
use Rattle.chain_model.specs.MergePhases.{AboveGoesOver}
use Rattle.chain_model.proofs.Linking.{ties_keep_chain, alike_self, disks_of_chains}
use Rattle.chain_model.proofs.Serving.{phases_open}
use Rattle.chain_model.proofs.Phasing.{alike_at, by_at, members_append, served_before, served_beside, kept_behind, opens_merging}

pub above_goes_over : AboveGoesOver
above_goes_over z opening h leaf among retired above before after between source target below old new once served over same ties loose_before loose_after =
    let rest : List Placed = source ∷ target ∷ below in
    let e : (above ++ before ∷ between) ++ rest ≡ above ++ before ∷ (between ++ rest) = append_assoc above (before ∷ between) rest in
    let f : (above ++ after ∷ between) ++ rest ≡ above ++ after ∷ (between ++ rest) = append_assoc above (after ∷ between) rest in
    let moved : IsServed z opening h leaf retired (above ++ before ∷ (between ++ rest)) old = subst (λ c. IsServed z opening h leaf retired c old) e served in
    let kept = served_before z opening h leaf retired above before (between ++ rest) old moved in
    let first : AllByRecursion (IsOrIsBeside old before before) (retired ++ ((above ++ before ∷ between) ++ rest)) =
    subst (λ (c : List Placed). AllByRecursion (IsOrIsBeside old before before) (retired ++ c)) (sym e) (served_beside z opening h leaf retired above before before (between ++ rest) old moved) in
    let second : AllByRecursion (IsOrIsBeside old before after) (retired ++ ((above ++ after ∷ between) ++ rest)) =
    subst (λ (c : List Placed). AllByRecursion (IsOrIsBeside old before after) (retired ++ c)) (sym f) (served_beside z opening h leaf retired above before after (between ++ rest) old moved) in
    let is : IsChainOf leaf.name (members_of retired) (members_of ((above ++ after ∷ between) ++ rest)) =
    ties_keep_chain leaf.name (members_of retired) (members_of ((above ++ before ∷ between) ++ rest)) (members_of retired) (members_of ((above ++ after ∷ between) ++ rest)) served.linked (alike_self (members_of retired))
    (alike_at above before after (between ++ rest) ((above ++ before ∷ between) ++ rest) ((above ++ after ∷ between) ++ rest) (record { name = sym over.one_name; ties = ties }) (sym e) (sym f)) in
    let disk : disk_of (members_of ((above ++ after ∷ between) ++ rest)) ≡ replay z opening h =
    ap (λ (c : List Placed). disk_of (members_of c)) f ∙ ap disk_of (members_append above (after ∷ (between ++ rest)))
    ∙ disks_of_chains.tied (members_of above) before.member after.member (members_of (between ++ rest)) (ap (λ t. t.geometry) ties) same
    ∙ ap disk_of (sym (members_append above (before ∷ (between ++ rest)))) ∙ ap (λ (c : List Placed). disk_of (members_of c)) (sym e) ∙ served.disk in
    let by = by_at leaf above before after (between ++ rest) ((above ++ before ∷ between) ++ rest) ((above ++ after ∷ between) ++ rest) over.one_name (sym e) (sym f) served.by in
    record {
      moments = phases_open before after old new leaf among (replay z opening h) (retired ++ ((above ++ before ∷ between) ++ rest)) (retired ++ ((above ++ after ∷ between) ++ rest)) over kept first second
          (opens_merging leaf among retired (above ++ before ∷ between) source target below (replay z opening h) old once served.linked served.by loose_before served.disk)
          (opens_merging leaf among retired (above ++ after ∷ between) source target below (replay z opening h) old once is by loose_after disk);
      served = λ done. record { linked = is; by = by; kept = kept_behind before after old new (retired ++ ((above ++ after ∷ between) ++ rest)) over done kept second; disk = disk };
    }
