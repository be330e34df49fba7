-- What a pick gives is an image.
use Rattle.std.proofs.Common.{◌≡◌, ◌≤◌, ℕ, ◌+◌, ◌-◌, List, [], ◌∷◌, ◌∙◌, length, drop, refl, sym, ap, arith, length-take, drop-drop}
use Rattle.std.specs.Prelude.{Bool, true, false, cond, max}
use Rattle.std.proofs.lemmas.List.{take_all}
use Rattle.store_model.specs.Bytes.{IsBytes, Torn, Lengthened, written_over, extended}
use Rattle.store_model.specs.File.{Op, Write, Tear, Grow, Sync, Seal, seen_after, IsImageAfter}
use Rattle.store_model.specs.Lawful.{is_lawful}
use Rattle.store_model.proofs.Parts.{Torn-overwritten, Lengthened-extended}
use Rattle.vx_base.proofs.ByteLists.{bytes-take, bytes-written_over, bytes-extended, length-overwritten, length-extended}
use Rattle.store_model.proofs.Lawfulness.{lawful-bytes, lawful_tear, lawful_write}
use Rattle.mem_file.specs.Picked.{is_second, takes_write, takes_growth, taken_of, picked}
use Rattle.mem_file.specs.declared.replay.Pick.{Pick}
use Rattle.mem_file.specs.declared.replay.Pick.TheVariants.{Nothing, Everything, EverySecond, Front}

-- what holds of it, change by change
pub record IsPicked (pick : Pick) (attached : List ℕ) (ops : List Op) : Type 0 where
  pub image : IsImageAfter attached ops (picked pick attached ops)
  pub are_bytes : IsBytes (picked pick attached ops)
  pub as_long : takes_growth pick ≡ true → length (picked pick attached ops) ≡ length (seen_after attached ops)

torn_same : (at n : ℕ) (bytes : List ℕ) → IsBytes bytes → Torn at n bytes bytes
torn_same at n bytes b = record { are_bytes = b; as_long = refl; before = refl; after = refl }

lengthened_same : (len : ℕ) (bytes : List ℕ) → IsBytes bytes → Lengthened len bytes bytes
lengthened_same len bytes b = record { are_bytes = b; front = take_all (length bytes) bytes (omega arith); no_longer = omega arith }

-- a write that is picked is within the image
pub growth_too : (pick : Pick) (second : Bool) → takes_write pick second ≡ true → takes_growth pick ≡ true
growth_too Nothing second h = h
growth_too Everything second h = refl
growth_too EverySecond second h = refl
growth_too (Front n) second h = refl

-- of a write that is picked the image has no more than its bytes
record AreTaken (pick : Pick) (bytes : List ℕ) : Type 0 where
  shorter : length (taken_of pick bytes) ≤ length bytes
  are_bytes : IsBytes (taken_of pick bytes)

are_taken : (pick : Pick) (bytes : List ℕ) → IsBytes bytes → AreTaken pick bytes
are_taken Nothing bytes b = record { shorter = omega arith; are_bytes = b }
are_taken Everything bytes b = record { shorter = omega arith; are_bytes = b }
are_taken EverySecond bytes b = record { shorter = omega arith; are_bytes = b }
are_taken (Front n) bytes b = record { shorter = omega (arith, length-take n bytes); are_bytes = bytes-take n b }

-- what a torn write may leave, one of more bytes may leave
torn_wider : (at k n : ℕ) (old new : List ℕ) → k ≤ n → Torn at k old new → Torn at n old new
torn_wider at k n old new le torn =
    let cut : at + n ≡ at + k + (n - k) = omega (arith, le) in
    record {
      are_bytes = torn.are_bytes;
      as_long = torn.as_long;
      before = torn.before;
      after = ap (λ m. drop m new) cut ∙ sym (drop-drop (n - k) (at + k) new) ∙ ap (drop (n - k)) torn.after ∙ drop-drop (n - k) (at + k) old ∙ sym (ap (λ m. drop m old) cut);
    }

record WriteStep (attached : List ℕ) (at : ℕ) (bytes : List ℕ) (older : List Op) (earlier image : List ℕ) (grows : Bool) : Type 0 where
  torn : Torn at (length bytes) earlier image
  are_bytes : IsBytes image
  as_long : grows ≡ true → length image ≡ length (seen_after attached (Write at bytes ∷ older))

write_step : (pick : Pick) (attached : List ℕ) (at : ℕ) (bytes : List ℕ) (older : List Op) (takes : Bool) → takes ≡ takes_write pick (is_second older) → is_lawful attached (Write at bytes ∷ older) ≡ true → IsPicked pick attached older → WriteStep attached at bytes older (picked pick attached older) (cond takes (written_over (picked pick attached older) at (taken_of pick bytes)) (picked pick attached older)) (takes_growth pick)
write_step pick attached at bytes older true e h before =
    let it = lawful_write attached at bytes older h in
    let grows : takes_growth pick ≡ true = growth_too pick (is_second older) (sym e) in
    let same = before.as_long grows in
    let taken = are_taken pick bytes it.are_bytes in
    let inside : at + length (taken_of pick bytes) ≤ length (picked pick attached older) = omega (arith, same, it.within, taken.shorter) in
    let made = bytes-written_over (picked pick attached older) at (taken_of pick bytes) before.are_bytes taken.are_bytes in
    record {
      torn = torn_wider at (length (taken_of pick bytes)) (length bytes) _ _ taken.shorter (Torn-overwritten (picked pick attached older) (taken_of pick bytes) at made inside);
      are_bytes = made;
      as_long = λ _. length-overwritten (picked pick attached older) (taken_of pick bytes) at inside ∙ same ∙ sym (length-overwritten (seen_after attached older) bytes at it.within);
    }
write_step pick attached at bytes older false e h before =
    let it = lawful_write attached at bytes older h in
    record {
      torn = torn_same at (length bytes) (picked pick attached older) before.are_bytes;
      are_bytes = before.are_bytes;
      as_long = λ grows. before.as_long grows ∙ sym (length-overwritten (seen_after attached older) bytes at it.within);
    }

record GrowStep (attached : List ℕ) (len : ℕ) (older : List Op) (earlier image : List ℕ) (grows : Bool) : Type 0 where
  longer : Lengthened len earlier image
  are_bytes : IsBytes image
  as_long : grows ≡ true → length image ≡ length (seen_after attached (Grow len ∷ older))

grow_step : (pick : Pick) (attached : List ℕ) (len : ℕ) (older : List Op) (grows : Bool) → grows ≡ takes_growth pick → IsPicked pick attached older → GrowStep attached len older (picked pick attached older) (cond grows (extended (picked pick attached older) len) (picked pick attached older)) grows
grow_step pick attached len older true e before =
    let made = bytes-extended (picked pick attached older) len before.are_bytes in
    record {
      longer = Lengthened-extended (picked pick attached older) len made;
      are_bytes = made;
      as_long = λ _. length-extended (picked pick attached older) len ∙ ap (λ n. max n len) (before.as_long (sym e)) ∙ sym (length-extended (seen_after attached older) len);
    }
grow_step pick attached len older false e before = record {
  longer = lengthened_same len (picked pick attached older) before.are_bytes;
  are_bytes = before.are_bytes;
  as_long = λ never. cc;
}

pub is_picked : (pick : Pick) (attached : List ℕ) (ops : List Op) → is_lawful attached ops ≡ true → IsPicked pick attached ops
is_picked pick attached [] h = record { image = refl; are_bytes = lawful-bytes attached [] h; as_long = λ _. refl }
is_picked pick attached (Write at bytes ∷ older) h =
    let before = is_picked pick attached older (lawful_write attached at bytes older h).before in
    let step = write_step pick attached at bytes older (takes_write pick (is_second older)) refl h before in
    record { image = (picked pick attached older, before.image, step.torn); are_bytes = step.are_bytes; as_long = step.as_long }
is_picked pick attached (Tear at meant left ∷ older) h =
    let lawful = lawful_tear attached at meant left older h in
    let before = is_picked pick attached older (lawful_write attached at left older lawful).before in
    let step = write_step pick attached at left older (takes_write pick (is_second older)) refl lawful before in
    record { image = (picked pick attached older, before.image, step.torn); are_bytes = step.are_bytes; as_long = step.as_long }
is_picked pick attached (Grow len ∷ older) h =
    let before = is_picked pick attached older h in
    let step = grow_step pick attached len older (takes_growth pick) refl before in
    record { image = (picked pick attached older, before.image, step.longer); are_bytes = step.are_bytes; as_long = step.as_long }
is_picked pick attached (Sync ∷ older) h = record { image = refl; are_bytes = lawful-bytes attached older h; as_long = λ _. refl }
is_picked pick attached (Seal ∷ older) h = let before = is_picked pick attached older h in record { image = before.image; are_bytes = before.are_bytes; as_long = before.as_long }
