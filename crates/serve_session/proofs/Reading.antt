-- What a guest's readers count, as its reads are made.
use Rattle.std.proofs.Common.{◌≡◌, ◌≢◌, ◌⊎◌, ◌<◌, ◌++◌, ◌∷◌, ℕ, zero, suc, Bool, true, false, List, [], length, map, set, get_or, Result, Ok, Err, inl, inr, refl, sym, ap, subst, ◌∙◌, arith, ne_eqb}
use Rattle.std.specs.Prelude.{All, IfErr, if◌then◌else◌}
use Rattle.std.specs.List.{AllByRecursion}
use Rattle.std.proofs.Math.Seq.{map-set_same}
use Rattle.std.proofs.lemmas.Bool.{cases_eq, eq-eqb}
use Rattle.std.proofs.lemmas.List.{append-nil, get_or-map, get_or-set_other, get_or-set_same, length-map, length-set}
use Rattle.std.proofs.lemmas.List.Elements.{All-set}
use Rattle.store_model.specs.Cause.{Rose}
use Rattle.store_model.specs.Disk.{Disk, Sealed}
use Rattle.store_model.specs.declared.fault.ReadFault.{ReadFault}
use Rattle.store_model.specs.declared.fault.StoreFault.{StoreFault}
use Rattle.guest_model.specs.declared.call.Call.{Call}
use Rattle.guest_model.specs.declared.call.Reply.{Reply}
use Rattle.ledger.specs.declared.ledger.Ledger.{Ledger}
use Rattle.guest_model.specs.declared.refusal.ChainRefusal.{ChainRefusal}
use Rattle.read_plan.specs.Reading.{ReaderFailed}
use Rattle.layer_session.proofs.Equal.{false_true}
use Rattle.chain_core.specs.Refusing.{is_read}
use Rattle.chain_core.specs.Sessions.{AreApart}
use Rattle.chain_core.specs.declared.chain.Chain.{Chain}
use Rattle.shared_chain.specs.Planned.{IsReaderFor}
use Rattle.guest_io.specs.Guests.{AreReadBy, ReadsBy}
use Rattle.guest_io.specs.declared.placed.Placed.{Placed}
use Rattle.serve_session.specs.Actors.{HasReaders, IsUnread}
use Rattle.serve_session.specs.Asking.{is_want, outcome_of, read_as}
use Rattle.serve_session.specs.Served.{Outcome, counts_behind, none_failed, unread_in, unread_of, with_count}
use Rattle.read_plan.proofs.Failing.{failed_at, risen_lt}
use Rattle.serve_session.proofs.Back.{snoc_lt}
use Rattle.serve_session.proofs.Guests.{unread_snoc}

-- the counts behind one more failed read
counts_more : (counts : ℕ → ℕ) (faults : List StoreFault) (fault : StoreFault) (file : ℕ) → counts_behind counts (faults ++ fault ∷ []) file ≡ with_count (counts_behind counts faults) fault file
counts_more counts [] fault file = refl
counts_more counts (f ∷ faults) fault file = counts_more (with_count counts f) faults fault file

-- numbers that stand apart are two at two places
apart_at : (ns : List ℕ) (i k d e : ℕ) → AreApart ns → i < length ns → k < length ns → i ≢ k → get_or ns i d ≢ get_or ns k e
apart_at [] i k d e apart low high ne same = absurd (omega (arith, low))
apart_at (n ∷ ns) zero zero d e apart low high ne same = ne refl
apart_at (n ∷ ns) zero (suc k) d e apart low high ne same = others ns k e apart.0 (omega (arith, high)) (sym same)
  where
    others : (ns : List ℕ) (k e : ℕ) → AllByRecursion (λ other. other ≢ n) ns → k < length ns → get_or ns k e ≢ n
    others [] k e h within same = absurd (omega (arith, within))
    others (m ∷ ns) zero e h within same = h.0 same
    others (m ∷ ns) (suc k) e h within same = others ns k e h.1 (omega (arith, within)) same
apart_at (n ∷ ns) (suc i) zero d e apart low high ne same = others ns i d apart.0 (omega (arith, low)) same
  where
    others : (ns : List ℕ) (k e : ℕ) → AllByRecursion (λ other. other ≢ n) ns → k < length ns → get_or ns k e ≢ n
    others [] k e h within same = absurd (omega (arith, within))
    others (m ∷ ns) zero e h within same = h.0 same
    others (m ∷ ns) (suc k) e h within same = others ns k e h.1 (omega (arith, within)) same
apart_at (n ∷ ns) (suc i) (suc k) d e apart low high ne same = apart_at ns i k d e apart.1 (omega (arith, low)) (omega (arith, high)) (λ eq. ne (ap suc eq)) same

module _ {S T : Type 0} (disk : S → Disk) (first : Chain S Ledger T) where
  -- ---- a reader failed

  module _ (unread : List StoreFault) (readers new : List Sealed) (fault : ReadFault) (h : HasReaders disk first unread readers) (f : ReaderFailed readers new fault) where
    abbrev counts : ℕ → ℕ
    counts = counts_behind none_failed unread

    abbrev told : StoreFault
    told = record { file = fault.file; count = fault.count }

    was_at : (P : Sealed → Type 0) → All P readers → P f.was
    was_at P all = subst P f.is_was (all f.i f.was f.within)

    file_is : fault.file ≡ f.was.file
    file_is = f.failed.of_file

    now_file : f.now.file ≡ f.was.file
    now_file = ap (λ (s : Sealed). s.file) f.failed.stays

    pub failed_there : fault.file < (disk first.store).files
    failed_there = subst (λ n. n < (disk first.store).files) (sym file_is) (was_at (λ s. s.file < (disk first.store).files) h.there)

    pub failed_rose : Rose (counts fault.file) fault.count
    failed_rose =
        subst (λ n. Rose (counts n) fault.count) (sym file_is)
        (subst (λ n. Rose n fault.count) (was_at (λ s. s.failed ≡ counts s.file) h.counts) (subst (λ n. Rose f.was.failed n) (sym f.failed.count) f.failed.rose))

    like_was : (P : Sealed → Type 0) → P (record (f.was) { failed = f.now.failed }) → P f.now
    like_was P p = subst P (sym f.failed.stays) p

    counted_at : (k : ℕ) (d : Sealed) → k < length readers → (get_or (set readers f.i f.now) k d).failed ≡ with_count counts told (get_or (set readers f.i f.now) k d).file
    counted_at k d within = go (cases_eq k f.i)
      where
        go : (k ≡ f.i) ⊎ (k ≢ f.i) → (get_or (set readers f.i f.now) k d).failed ≡ with_count counts told (get_or (set readers f.i f.now) k d).file
        go (inl same) =
            let at : get_or (set readers f.i f.now) k d ≡ f.now = ap (λ i. get_or (set readers f.i f.now) i d) same ∙ get_or-set_same readers f.i f.now d f.within in
            subst (λ (s : Sealed). s.failed ≡ with_count counts told s.file) (sym at)
            (sym f.failed.count ∙ sym (ap (λ b. if b then fault.count else counts f.now.file) (eq-eqb fault.file f.now.file (file_is ∙ sym now_file))))
        go (inr other) =
            let at : get_or (set readers f.i f.now) k d ≡ get_or readers k d = get_or-set_other readers f.i k f.now d other in
            let number = λ (i : ℕ) (s : Sealed) (low : i < length readers). get_or-map (λ (r : Sealed). r.file) readers i s 0 low in
            let size : length (map (λ (s : Sealed). s.file) readers) ≡ length readers = length-map readers (λ (s : Sealed). s.file) in
            let ne : fault.file ≢ (get_or readers k d).file = λ same.
            apart_at (map (λ (s : Sealed). s.file) readers) f.i k 0 0 h.apart (omega (arith, size, f.within)) (omega (arith, size, within)) (λ e. other (sym e))
            (number f.i f.was f.within ∙ ap (λ (s : Sealed). s.file) f.is_was ∙ sym file_is ∙ same ∙ sym (number k d within)) in
            subst (λ (s : Sealed). s.failed ≡ with_count counts told s.file) (sym at)
            (h.counts k d within ∙ sym (ap (λ b. if b then fault.count else counts (get_or readers k d).file) (ne_eqb fault.file (get_or readers k d).file ne)))

    pub failed_readers : HasReaders disk first (unread ++ told ∷ []) new
    failed_readers = subst (HasReaders disk first (unread ++ told ∷ [])) (sym f.only) (record {
      own = All-set (IsReaderFor disk first) readers f.i f.now (like_was (IsReaderFor disk first) (let was = was_at (IsReaderFor disk first) h.own in record { only_read = was.only_read; content = was.content; session = was.session; served = was.served })) h.own;
      there = All-set (λ s. s.file < (disk first.store).files) readers f.i f.now (subst (λ n. n < (disk first.store).files) (sym now_file) (was_at (λ s. s.file < (disk first.store).files) h.there)) h.there;
      apart = subst AreApart (sym (map-set_same (λ (s : Sealed). s.file) readers f.i f.now f.was (now_file ∙ sym (ap (λ (s : Sealed). s.file) f.is_was)))) h.apart;
      counts = λ k d within.
          counted_at k d (let size : length (set readers f.i f.now) ≡ length readers = length-set readers f.i f.now in omega (arith, size, within))
          ∙ sym (counts_more none_failed unread told (get_or (set readers f.i f.now) k d).file);
      failed = failed_at readers f.i f.now f.within (risen_lt f.was.failed f.now.failed f.failed.rose) ∙ sym (snoc_lt unread told);
    })

  -- ---- a call

  -- a read that failed by a reader is one of the call, and is told its count
  pub missed_by : (call : Call) (unread : List StoreFault) (readers new : List Sealed) (read : Result (Unit {0}) StoreFault) → HasReaders disk first unread readers → AreReadBy read readers new → IfErr read (λ fault. is_read call ≡ true)
      → IfErr read (λ fault. IsUnread disk first call fault × Rose (counts_behind none_failed unread fault.file) fault.count)
  missed_by call unread readers new (Ok done) h by reads = tt
  missed_by call unread readers new (Err fault) h by reads =
      let k : ReadFault = record { file = fault.file; count = fault.count } in
      ((reads, failed_there unread readers new k h by), failed_rose unread readers new k h by)

  -- and behind it the readers count what was told
  pub readers_behind : (outcomes : List Outcome) (r : Reply) (answer : Result Placed ChainRefusal) (readers new : List Sealed) → HasReaders disk first (unread_in outcomes) readers → ReadsBy answer readers new
      → HasReaders disk first (unread_in (outcomes ++ outcome_of r answer ∷ [])) new
  readers_behind outcomes r answer readers new h by = go answer by
    where
      with_last : (o : Outcome) → HasReaders disk first (unread_in outcomes ++ unread_of o) new → HasReaders disk first (unread_in (outcomes ++ o ∷ [])) new
      with_last o k = subst (λ faults. HasReaders disk first faults new) (sym (unread_snoc outcomes o)) k

      same : new ≡ readers → HasReaders disk first (unread_in outcomes ++ []) new
      same e = subst (λ faults. HasReaders disk first faults new) (sym (append-nil (unread_in outcomes))) (subst (HasReaders disk first (unread_in outcomes)) (sym e) h)

      by_read : (place : ℕ) (read : Result (Unit {0}) StoreFault) → AreReadBy read readers new → HasReaders disk first (unread_in (outcomes ++ Ok (place, read_as r read) ∷ [])) new
      by_read place (Ok done) e = with_last (Ok (place, Ok r)) (same e)
      by_read place (Err fault) f = with_last (Ok (place, Err fault)) (failed_readers (unread_in outcomes) readers new (record { file = fault.file; count = fault.count }) h f)

      go : (answer : Result Placed ChainRefusal) → ReadsBy answer readers new → HasReaders disk first (unread_in (outcomes ++ outcome_of r answer ∷ [])) new
      go (Ok placed) by = by_read placed.place placed.read by
      go (Err x) e = with_last (Err x) (same e)

  -- where memory ran out nothing was told
  pub readers_after : (outcomes : List Outcome) (r : Reply) (answer : Result Placed ChainRefusal) (readers new : List Sealed) → HasReaders disk first (unread_in outcomes) readers → ReadsBy answer readers new
      → HasReaders disk first (unread_in (if is_want answer then outcomes else outcomes ++ outcome_of r answer ∷ [])) new
  readers_after outcomes r answer readers new h by = go (is_want answer) refl
    where
      none_read : (answer : Result Placed ChainRefusal) → is_want answer ≡ true → ReadsBy answer readers new → new ≡ readers
      none_read (Ok placed) never by = absurd (false_true never)
      none_read (Err x) want same = same

      go : (want : Bool) → is_want answer ≡ want → HasReaders disk first (unread_in (if want then outcomes else outcomes ++ outcome_of r answer ∷ [])) new
      go true want = subst (HasReaders disk first (unread_in outcomes)) (sym (none_read answer want by)) h
      go false told = readers_behind outcomes r answer readers new h by
