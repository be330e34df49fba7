-- What is left where a command followed a leaf's name, and how it then ends.
use Rattle.std.proofs.Common.{◌≡◌, ◌≢◌, ◌⊎◌, ℕ, ◌*◌, List, length, Option, Some, None, Result, Ok, Err, refl, sym, ap, subst, ◌∙◌}
use Rattle.std.specs.Prelude.{IfOk, String, string_bytes}
use Rattle.std.proofs.lemmas.Option.{same_Some}
use Rattle.store_model.specs.Disk.{WhereTold}
use Rattle.store_model.specs.Folder.{Held, Hosted}
use Rattle.vx_base.specs.declared.NoRoom.{NoRoom}
use Rattle.file_open.specs.Causes.{IfCause, Meaning, refuses, host_failed, store_failed, no_memory, cause_in}
use Rattle.link_rules.specs.Chains.{Links}
use Rattle.link_rules.specs.Chains as chains
use Rattle.link_rules.specs.Effects.{HasReplayed, KeepsEach, Replays, Within}
use Rattle.link_rules.specs.Folders.{AllIdle, contents}
use Rattle.link_rules.specs.Touches.{IsOnWay, TouchesSafely}
use Rattle.link_rules.specs.declared.linked.Linked.{Linked}
use Rattle.link_rules.proofs.Composing.{replays_keep}
use Rattle.link_rules.proofs.Lent.{none_kept}
use Rattle.link_rules.proofs.Safe.{none_safely}
use Rattle.printing.specs.Answers.{sector_lines}
use Rattle.command_base.specs.Causes.{of_chain}
use Rattle.command_base.specs.Commands.{HasFollowed, LeavesFollowedBy, Reports}
use Rattle.command_base.specs.Dump.{Finds}
use Rattle.command_base.specs.Folders.{IsReplayedIn, OnlyFollows}
use Rattle.command_base.specs.Info.{info_lines}
use Rattle.command_base.specs.Printed.{RefusesDump, RefusesLeaf, ShowsFiles, ShowsSectors, unlinked}
use Rattle.command_base.specs.Refusals.{Refusal}
use Rattle.printing.specs.declared.status.Status.{Status}
use Rattle.printing.specs.declared.status.Status.TheVariants.{Done, Refused, Fault}
use Rattle.command_base.proofs.Said.{CountsIn, UnlessStoreFailed, WhereRefused, idle_reported, replayed_reported}

pub counted : (leaf : List ℕ) (old new : Hosted) (meaning : Meaning Refusal) → LeavesFollowedBy leaf old new meaning → CountsIn old new meaning
counted leaf old new (refuses refusal) h = h.has.quiet
counted leaf old new (host_failed fault) h = (h.rose, h.told, h.healthy)
counted leaf old new (store_failed fault) h = (h.rose, h.some, h.last)
counted leaf old new no_memory h = h.quiet

-- ---- what stands of the folder

replayed_each : (opened : List (List ℕ)) (old new : Hosted) → HasReplayed opened old new → Within KeepsEach old.folder new.folder
replayed_each opened old new h f told = let m = h.files f told in (m.0, m.1, replays_keep opened (contents f) (contents m.0) m.2)

left_each : (leaf : List ℕ) (old new : Hosted) (meaning : Meaning Refusal) → LeavesFollowedBy leaf old new meaning → Within KeepsEach old.folder new.folder
left_each leaf old new (refuses refusal) h = replayed_each h.opened old new h.has
left_each leaf old new (host_failed fault) h = h.files
left_each leaf old new (store_failed fault) h = h.files
left_each leaf old new no_memory h = h.files

follows_by : (leaf : List ℕ) (old new : Hosted) → Within KeepsEach old.folder new.folder → TouchesSafely (λ f. IsOnWay (contents f) leaf) old new → OnlyFollows leaf old.folder new.folder
follows_by leaf old new each touches f told = let m = each f told in (m.0, m.1, record { safe = (touches f told).now m.0 m.1; alike = m.2 })

pub followed : (leaf : List ℕ) (old new : Hosted) → HasFollowed leaf old new → TouchesSafely (λ f. IsOnWay (contents f) leaf) old new → OnlyFollows leaf old.folder new.folder
followed leaf old new h touches = follows_by leaf old new (replayed_each h.opened old new h.has) touches

pub stopped : (leaf : List ℕ) (old new : Hosted) (meaning : Meaning Refusal) → LeavesFollowedBy leaf old new meaning → TouchesSafely (λ f. IsOnWay (contents f) leaf) old new → OnlyFollows leaf old.folder new.folder
stopped leaf old new meaning h touches = follows_by leaf old new (left_each leaf old new meaning h) touches

pub follows_none : (leaf : List ℕ) (host : Hosted) → OnlyFollows leaf host.folder host.folder
follows_none leaf host = follows_by leaf host host (none_kept host host refl) (none_safely (λ f. IsOnWay (contents f) leaf) host)

left_idle : (leaf : List ℕ) (old new : Hosted) (meaning : Meaning Refusal) → LeavesFollowedBy leaf old new meaning → UnlessStoreFailed meaning (WhereTold old.folder (λ f. WhereTold new.folder AllIdle))
left_idle leaf old new (refuses refusal) h = h.has.idle
left_idle leaf old new (host_failed fault) h = h.idle
left_idle leaf old new (store_failed fault) h = tt
left_idle leaf old new no_memory h = h.idle

pub idle_left : (leaf : List ℕ) (old new : Hosted) (meaning : Meaning Refusal) (before after : Option (List ℕ)) (o n : ℕ) (status : Status) → LeavesFollowedBy leaf old new meaning → Reports meaning before after o n status → status ≢ Fault
    → WhereTold old.folder (λ f. WhereTold new.folder AllIdle)
idle_left leaf old new meaning before after o n status h reports fault = idle_reported meaning before after o n status (left_idle leaf old new meaning h) reports fault

pub is_replayed : (leaf : List ℕ) (old new : Hosted) → HasFollowed leaf old new → IsReplayedIn leaf old.folder new.folder
is_replayed leaf old new h f told g also =
    let m = h.has.files f told in
    record { opened = h.opened; replays = subst (λ x. Replays h.opened (contents f) (contents x)) (same_Some m.0 g (sym m.1 ∙ also)) m.2; all = h.all f told }

left_replayed : (leaf : List ℕ) (old new : Hosted) (meaning : Meaning Refusal) → LeavesFollowedBy leaf old new meaning → WhereRefused meaning (IsReplayedIn leaf old.folder new.folder)
left_replayed leaf old new (refuses refusal) h = is_replayed leaf old new h
left_replayed leaf old new (host_failed fault) h = tt
left_replayed leaf old new (store_failed fault) h = tt
left_replayed leaf old new no_memory h = tt

pub replayed_left : (leaf : List ℕ) (old new : Hosted) (meaning : Meaning Refusal) (before after : Option (List ℕ)) (o n : ℕ) (status : Status) → LeavesFollowedBy leaf old new meaning → Reports meaning before after o n status
    → (status ≡ Done) ⊎ (status ≡ Refused) → IsReplayedIn leaf old.folder new.folder
replayed_left leaf old new meaning before after o n status h reports shown = replayed_reported meaning before after o n status (left_replayed leaf old new meaning h) reports shown

-- ---- what is shown

-- the sectors that were found are shown by their lines
pub sectors_shown : (folder : Option (List Held)) (leaf named : List ℕ) (first count : ℕ) (bytes slice : List ℕ) → slice ≡ bytes → named ≡ leaf → length bytes ≡ 512 * count → WhereTold folder (λ f. Finds f named first count (Ok bytes))
    → ShowsSectors folder leaf first count (sector_lines 512 first slice count)
sectors_shown folder leaf named first count bytes slice same name_is len finds = record {
  bytes = bytes;
  whole = len;
  text_is = ap (λ b. sector_lines 512 first b count) same;
  finds = subst (λ n. WhereTold folder (λ f. Finds f n first count (Ok bytes))) name_is finds;
}

-- a refusal of a dump is one by its cause
pub dump_refused : (folder : Option (List Held)) (leaf named : List ℕ) (first count : ℕ) (meaning : Meaning Refusal) → named ≡ leaf → WhereTold folder (λ f. IfCause (Finds f named first count) (cause_in meaning)) → (r : Refusal) → cause_in meaning ≡ Some r
    → RefusesDump folder leaf first count r
dump_refused folder leaf named first count meaning same finds r is f told = subst (λ n. Finds f n first count (Err r)) same (subst (IfCause (Finds f named first count)) is (finds f told))

-- a name that leads to no chain
pub leaf_refused : (folder : Option (List Held)) (leaf named : List ℕ) (meaning : Meaning chains.Refusal) → named ≡ leaf → WhereTold folder (λ f. IfCause (Links (contents f) named) (cause_in meaning)) → (r : Refusal) → cause_in (of_chain meaning) ≡ Some r
    → RefusesLeaf folder leaf r
leaf_refused folder leaf named (refuses refusal) same links r is = subst (RefusesLeaf folder leaf) (same_Some _ _ is) (unlinked refusal (subst (λ n. WhereTold folder (λ f. Links (contents f) n (Err refusal))) same links))
leaf_refused folder leaf named (host_failed fault) same links r is = let none : None ≡ Some r = is in cc
leaf_refused folder leaf named (store_failed fault) same links r is = let none : None ≡ Some r = is in cc
leaf_refused folder leaf named no_memory same links r is = let none : None ≡ Some r = is in cc

pub files_shown : {Z : Type 0} (folder : Option (List Held)) (leaf named : List ℕ) (linked : Linked) (line : Result (String Z) NoRoom) → named ≡ leaf → WhereTold folder (λ f. Links (contents f) named (Ok linked))
    → IfOk line (λ l. string_bytes l ≡ info_lines linked) → IfOk line (λ l. ShowsFiles folder leaf (string_bytes l))
files_shown folder leaf named linked (Ok l) same links says = record { linked = linked; text_is = says; links = subst (λ n. WhereTold folder (λ f. Links (contents f) n (Ok linked))) same links }
files_shown folder leaf named linked (Err e) same links says = tt

-- ---- a name that is this one

pub follows_for : (named leaf : List ℕ) (before now : Option (List Held)) → named ≡ leaf → OnlyFollows named before now → OnlyFollows leaf before now
follows_for named leaf before now same h = subst (λ n. OnlyFollows n before now) same h

pub replayed_for : (named leaf : List ℕ) (before now : Option (List Held)) → named ≡ leaf → IsReplayedIn named before now → IsReplayedIn leaf before now
replayed_for named leaf before now same h = subst (λ n. IsReplayedIn n before now) same h

pub safely_for : (named leaf : List ℕ) (before now : Hosted) → named ≡ leaf → TouchesSafely (λ f. IsOnWay (contents f) named) before now → TouchesSafely (λ f. IsOnWay (contents f) leaf) before now
safely_for named leaf before now same h = subst (λ n. TouchesSafely (λ f. IsOnWay (contents f) n) before now) same h
