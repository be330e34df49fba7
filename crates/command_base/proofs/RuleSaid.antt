-- What is said of a file that isn't opened.
use Rattle.std.proofs.Common.{◌≡◌, ℕ, List, Option, Result, refl, subst}
use Rattle.std.specs.Prelude.{IfOk, IfSome, MatchResult, String, codes, string_bytes}
use Rattle.vx_base.specs.declared.NoRoom.{NoRoom as OutOfMemory}
use Rattle.file_open.specs.Causes.{cause_of, meaning_of, refuses}
use Rattle.file_open.specs.declared.refusal.OpenRefusal.{OpenRefusal}
use Rattle.file_open.specs.declared.refusal.OpenRefusal.TheVariants.{NotVhdx, TooShort, NoHeader, BadVersion, BadLogPlace, TruncatedBelowLog, NoRegionTable, UnknownRegion, MissingRegion, RegionPlace, BadMetadataTable, UnknownItem, MissingItem, BadItem, SectorSize, BadBatState, BlockPlace, BlockOverlap, BitmapMissing, FileMissing, Host, Store, NoRoom}
use Rattle.store_model.specs.declared.fault.HostFault.{HostFault}
use Rattle.store_model.specs.declared.fault.StoreFault.{StoreFault}
use Rattle.command_base.specs.Commands.{Reports}
use Rattle.link_rules.specs.Causes.{of_file}
use Rattle.link_rules.specs.Chains.{Unopened}
use Rattle.link_rules.specs.Chains as chains
use Rattle.command_base.specs.Causes.{of_chain}
use Rattle.printing.specs.Sent.{Sent}
use Rattle.command_base.specs.Refusals.{OfChain, Refusal, refusal_line}
use Rattle.printing.specs.declared.status.Status.{Status}
use Rattle.printing.specs.declared.status.Status.TheVariants.{NoMemory, Refused}
use Rattle.command_base.proofs.Said.{refusal_sent}

-- a rule's line was said, or memory ran out for it
pub rule_said : {Z : Type 0} (file : List ℕ) (before after : Option (List ℕ)) (old new : ℕ) (status : Status) (line : Result (String Z) OutOfMemory) (refusal : OpenRefusal)
    → ((fault : HostFault) → refusal ≡ Host fault → ⊥) → ((fault : StoreFault) → refusal ≡ Store fault → ⊥) → (refusal ≡ NoRoom → ⊥)
    → IfOk line (λ l. IfSome (cause_of refusal) (λ cause. string_bytes l ≡ refusal_line (OfChain (Unopened file cause))))
    → MatchResult line (λ l. Sent before after old new Refused (string_bytes l) status) (λ _. Sent before after old new NoMemory (codes "no memory\n") status)
    → Reports (of_chain (of_file file (meaning_of refusal))) before after old new status
rule_said file before after old new status line NotVhdx h s m is sent = refusal_sent before after old new Refused status _ line is sent
rule_said file before after old new status line (TooShort length) h s m is sent = refusal_sent before after old new Refused status _ line is sent
rule_said file before after old new status line NoHeader h s m is sent = refusal_sent before after old new Refused status _ line is sent
rule_said file before after old new status line (BadVersion version log) h s m is sent = refusal_sent before after old new Refused status _ line is sent
rule_said file before after old new status line (BadLogPlace offset length) h s m is sent = refusal_sent before after old new Refused status _ line is sent
rule_said file before after old new status line (TruncatedBelowLog wanted found) h s m is sent = refusal_sent before after old new Refused status _ line is sent
rule_said file before after old new status line NoRegionTable h s m is sent = refusal_sent before after old new Refused status _ line is sent
rule_said file before after old new status line (UnknownRegion id) h s m is sent = refusal_sent before after old new Refused status _ line is sent
rule_said file before after old new status line (MissingRegion r) h s m is sent = refusal_sent before after old new Refused status _ line is sent
rule_said file before after old new status line (RegionPlace r) h s m is sent = refusal_sent before after old new Refused status _ line is sent
rule_said file before after old new status line (BadMetadataTable entry) h s m is sent = refusal_sent before after old new Refused status _ line is sent
rule_said file before after old new status line (UnknownItem id) h s m is sent = refusal_sent before after old new Refused status _ line is sent
rule_said file before after old new status line (MissingItem id) h s m is sent = refusal_sent before after old new Refused status _ line is sent
rule_said file before after old new status line (BadItem id) h s m is sent = refusal_sent before after old new Refused status _ line is sent
rule_said file before after old new status line (SectorSize sector) h s m is sent = refusal_sent before after old new Refused status _ line is sent
rule_said file before after old new status line (BadBatState index) h s m is sent = refusal_sent before after old new Refused status _ line is sent
rule_said file before after old new status line (BlockPlace index) h s m is sent = refusal_sent before after old new Refused status _ line is sent
rule_said file before after old new status line (BlockOverlap first second) h s m is sent = refusal_sent before after old new Refused status _ line is sent
rule_said file before after old new status line (BitmapMissing index) h s m is sent = refusal_sent before after old new Refused status _ line is sent
rule_said file before after old new status line FileMissing h s m is sent = refusal_sent before after old new Refused status _ line is sent
rule_said file before after old new status line (Host fault) h s m is sent = absurd (h fault refl)
rule_said file before after old new status line (Store fault) h s m is sent = absurd (s fault refl)
rule_said file before after old new status line NoRoom h s m is sent = absurd (m refl)

-- what refuses a chain was said, by its name
pub link_said : {Z : Type 0} (before after : Option (List ℕ)) (old new : ℕ) (status : Status) (line : Result (String Z) OutOfMemory) (said refusal : chains.Refusal) → said ≡ refusal
    → IfOk line (λ l. string_bytes l ≡ refusal_line (OfChain said))
    → MatchResult line (λ l. Sent before after old new Refused (string_bytes l) status) (λ _. Sent before after old new NoMemory (codes "no memory\n") status)
    → Reports (refuses (OfChain refusal)) before after old new status
link_said before after old new status line said refusal same is sent =
    subst (λ r. Reports (refuses (OfChain r)) before after old new status) same (refusal_sent before after old new Refused status (refusal_line (OfChain said)) line is sent)

-- what refuses a command was said, by the name of a file
pub named_said : {Z : Type 0} (before after : Option (List ℕ)) (old new : ℕ) (status : Status) (line : Result (String Z) OutOfMemory) (says : List ℕ → Refusal) (said name : List ℕ) → said ≡ name
    → IfOk line (λ l. string_bytes l ≡ refusal_line (says said))
    → MatchResult line (λ l. Sent before after old new Refused (string_bytes l) status) (λ _. Sent before after old new NoMemory (codes "no memory\n") status)
    → Reports (refuses (says name)) before after old new status
named_said before after old new status line says said name same is sent =
    subst (λ n. Reports (refuses (says n)) before after old new status) same (refusal_sent before after old new Refused status (refusal_line (says said)) line is sent)
