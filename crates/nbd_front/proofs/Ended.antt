-- Sessions that end between two messages.
use Rattle.std.proofs.Common.{◌≡◌, ◌<◌, ℕ, ◌++◌, List, length, Option, Err, refl, sym, ap, subst, ◌∙◌, length-append}
use Rattle.std.specs.Io.KnownBytes.{Consumes}
use Rattle.std.proofs.KnownBytes.{Consumes-trans}
use Rattle.nbd_front.specs.declared.export.Export.{Export}
use Rattle.nbd_front.specs.declared.refusal.NbdRefusal.{NbdRefusal}
use Rattle.nbd_front.specs.declared.refusal.NbdRefusal.TheVariants as refusals
use Rattle.nbd_front.specs.Wire.{counted}
use Rattle.nbd_front.specs.Messages.{Phase}
use Rattle.nbd_front.specs.Sessions.{EndsAs, IsPart}
use Rattle.nbd_front.specs.Parts.{IsShort, IsSourceEnd, IsEnded}
use Rattle.nbd_front.proofs.Taken.{counted_more}

-- the source ended, or failed
source_end : (e : Export) (p : Phase) (at place : ℕ) (tail : List ℕ) (left : Option (List ℕ)) (refusal : NbdRefusal)
    → place ≡ counted at (length tail) → IsPart p tail → IsSourceEnd place left refusal → EndsAs e p at tail left (Err refusal)
source_end e p at place tail left (refusals.Cut n) same part why = (why.0 ∙ same, why.1, part)
source_end e p at place tail left (refusals.Magic n) same part why = absurd why
source_end e p at place tail left refusals.OtherName same part why = absurd why
source_end e p at place tail left (refusals.TooLong n) same part why = absurd why
source_end e p at place tail left refusals.OtherFlags same part why = absurd why
source_end e p at place tail left (refusals.Source fault) same part why = part
source_end e p at place tail left (refusals.Sink fault) same part why = absurd why
source_end e p at place tail left refusals.Spent same part why = absurd why

-- nothing of a message had come
pub short_first : (e : Export) (p : Phase) (n m at : ℕ) (a b : Option (List ℕ)) (refusal : NbdRefusal) → n ≡ m → IsShort n at a b refusal
    → ((part : List ℕ) → length part < m → IsPart p part) → IsEnded e p at a b refusal
short_first e p n m at a b refusal size short part = record {
  tail = short.part;
  taken = short.taken;
  ends = source_end e p at _ short.part b refusal refl (part short.part (subst (λ k. length short.part < k) size short.few)) short.why;
}

-- a part of one had come
pub short_behind : (e : Export) (p : Phase) (n m at mid : ℕ) (first : List ℕ) (a b c : Option (List ℕ)) (refusal : NbdRefusal)
    → Consumes a b first → mid ≡ counted at (length first) → n ≡ m → IsShort n mid b c refusal
    → ((part : List ℕ) → length part < m → IsPart p (first ++ part)) → IsEnded e p at a c refusal
short_behind e p n m at mid first a b c refusal taken count size short part = record {
  tail = first ++ short.part;
  taken = Consumes-trans a b c first short.part taken short.taken;
  ends = source_end e p at _ (first ++ short.part) c refusal
      (ap (λ k. counted k (length short.part)) count ∙ counted_more at (length first) (length short.part) ∙ ap (counted at) (sym (length-append first short.part)))
      (part short.part (subst (λ k. length short.part < k) size short.few)) short.why;
}
