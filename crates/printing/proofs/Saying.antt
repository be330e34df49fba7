-- A text that was sent, and a line that was said.
use Rattle.std.proofs.Common.{◌≡◌, ℕ, List, Option, Result, Ok, Err, sym, subst}
use Rattle.std.specs.Prelude.{MatchResult, String, codes, string_bytes}
use Rattle.vx_base.specs.declared.NoRoom.{NoRoom}
use Rattle.printing.specs.Sent.{Sent}
use Rattle.printing.specs.declared.status.Status.{Status}
use Rattle.printing.specs.declared.status.Status.TheVariants.{NoMemory}

-- a text that is the meant one
pub text_sent : (before after : Option (List ℕ)) (old new : ℕ) (meant result : Status) (text bytes : List ℕ) → bytes ≡ text → Sent before after old new meant bytes result → Sent before after old new meant text result
text_sent before after old new meant result text bytes same sent = subst (λ t. Sent before after old new meant t result) same sent

-- a line that was said
pub said_line : {Z : Type 0} (before after : Option (List ℕ)) (old new : ℕ) (meant result : Status) (line : Result (String Z) NoRoom) (l : String Z) → line ≡ Ok l → Sent before after old new meant (string_bytes l) result
    → MatchResult line (λ l. Sent before after old new meant (string_bytes l) result) (λ _. Sent before after old new NoMemory (codes "no memory\n") result)
said_line before after old new meant result line l is sent = subst (λ r. MatchResult r (λ l. Sent before after old new meant (string_bytes l) result) (λ _. Sent before after old new NoMemory (codes "no memory\n") result)) (sym is) sent

pub said_none : {Z : Type 0} (before after : Option (List ℕ)) (old new : ℕ) (meant result : Status) (line : Result (String Z) NoRoom) (e : NoRoom) → line ≡ Err e → Sent before after old new NoMemory (codes "no memory\n") result
    → MatchResult line (λ l. Sent before after old new meant (string_bytes l) result) (λ _. Sent before after old new NoMemory (codes "no memory\n") result)
said_none before after old new meant result line e is sent = subst (λ r. MatchResult r (λ l. Sent before after old new meant (string_bytes l) result) (λ _. Sent before after old new NoMemory (codes "no memory\n") result)) (sym is) sent
