-- Files of a store as opening left them.
use Rattle.std.proofs.Common.{◌≡◌, ℕ, zero, suc, ◌+◌, ◌<◌, ◌≤◌, ◌^◌, List, [], ◌∷◌, length, get_or, sym, subst, ◌∙◌, arith}
use Rattle.vx_base.specs.declared.parts.Header.{Header}
use Rattle.vhdx_format.specs.FileParts.{LieWithin}
use Rattle.store_model.specs.Disk.{Disk, LeavesBy, ReadFailed}
use Rattle.store_model.specs.File.{seen}
use Rattle.store_model.specs.Trace.{Trace, file_of}
use Rattle.link_rules.specs.declared.linked.LinkedFile.{LinkedFile}
use Rattle.layer_session.proofs.Numbers.{are_numbers}
use Rattle.log_write.proofs.Heads.{head_of, place_of}
use Rattle.shown_ids.specs.Faults.{fault_of}
use Rattle.shown_ids.specs.declared.fault.CollectFault.{CollectFault}
use Rattle.shown_ids.specs.declared.fault.CollectFault.TheVariants.{NoRoom, Store}
use Rattle.merge_plan.specs.Attached.{AreAsOpened, IsAsOpened}
use Rattle.merge_plan.specs.Drawing.{CollectFails}

-- one of them
pub opened_at : (trace : Trace) (n k : ℕ) (files : List LinkedFile) (d : LinkedFile) → AreAsOpened trace n files → k < length files → IsAsOpened trace (n + k) (get_or files k d)
opened_at trace n k [] d all below = absurd (omega arith)
opened_at trace n zero (file ∷ files) d all below = let same : n ≡ n + 0 = omega arith in subst (λ (m : ℕ). IsAsOpened trace m file) same all.0
opened_at trace n (suc k) (file ∷ files) d all below =
    let same : n + 1 + k ≡ n + suc k = omega arith in
    subst (λ (m : ℕ). IsAsOpened trace m (get_or files k d)) same (opened_at trace (n + 1) k files d all.1 (omega arith))

-- its log and its regions lie in it
pub lie_within : (trace : Trace) (number : ℕ) (file : LinkedFile) → IsAsOpened trace number file → LieWithin file.parts (length (seen (file_of trace number)))
lie_within trace number file o =
    let bytes = seen (file_of trace number) in
    let n = are_numbers o.reads.header bytes file.parts o.reads.numbers in
    let log : o.reads.header.log_at + o.reads.header.log_len ≤ length bytes = (place_of o.reads.header (length bytes) (head_of bytes o.reads.header o.reads.head).place).within in
    record {
      log = subst (λ (h : Header). h.log_at + h.log_len ≤ length bytes) (sym n.1) log;
      bat = n.0.table.within;
      metadata = n.0.metadata.within;
      most = let most : length bytes ≤ 2 ^ 63 = o.most in omega arith;
    }

pub lie_at : (trace : Trace) (k : ℕ) (files : List LinkedFile) (d : LinkedFile) → AreAsOpened trace 0 files → k < length files → LieWithin (get_or files k d).parts (length (seen (file_of trace k)))
lie_at trace k files d all below =
    let same : 0 + k ≡ k = omega arith in
    lie_within trace k (get_or files k d) (subst (λ (n : ℕ). IsAsOpened trace n (get_or files k d)) same (opened_at trace 0 k files d all below))

-- the identifiers that one shows weren't collected
pub one_failed : (file : ℕ) (old mid new : Disk) (e : CollectFault) → mid ≡ old → file < old.files → LeavesBy file mid new (fault_of e) → CollectFails old new e
one_failed file old mid new (Store fault) same there h =
    let own : ReadFailed file old new fault = subst (λ d. ReadFailed file d new fault) same h in
    (subst (λ n. n < old.files) (sym own.of_file) there, subst (λ n. ReadFailed n old new fault) (sym own.of_file) own)
one_failed file old mid new NoRoom same there h = h ∙ same
