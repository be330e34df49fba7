-- What all commands of a load leave of a folder that is told, and that its three lines are those of its calls on one thread.
use Rattle.std.proofs.Common.{◌≡◌, ◌∷◌, ℕ, List, [], length, Option, Some, None, Ok, sym, ap, subst, ◌∙◌, arith}
use Rattle.std.proofs.lemmas.List.{length-replicate, take_all}
use Rattle.std.proofs.lemmas.List.Sorted.{sum_by-IsPermutation}
use Rattle.std.proofs.lemmas.Option.{same_Some}
use Rattle.store_model.specs.Disk.{WhereTold}
use Rattle.store_model.specs.Folder.{Held}
use Rattle.vx_base.specs.Fields.{zeros}
use Rattle.make_file.specs.Makes.{Outside}
use Rattle.guest_model.specs.Calls.{Disk}
use Rattle.guest_model.proofs.HistoryLaws.{length-replay}
use Rattle.guest_model.specs.History.{History, is_flush, replay}
use Rattle.chain_model.specs.Files.{OpensTo}
use Rattle.chain_model.proofs.Linking.{one_chain}
use Rattle.load_calls.specs.Histories.{Told, told_in}
use Rattle.load_calls.specs.Load.{IsHistoryOf, load_lines, new_disk, one_thread, prepared_disk, preparing_history, with_writes, zero_sectors}
use Rattle.load_calls.specs.Printed.{AreCounted, disk_sum, is_read, is_trim, is_write, lines_text, load_text, seen_in, seen_sum}
use Rattle.load_calls.specs.declared.text.Counts.{Counts}
use Rattle.load_calls.proofs.Prepared.{loads_have_lines}
use Rattle.load_calls.specs.Laws.{LinesAreCounted, LoadsAreCounted, LoadsEndAlike, LoadsRunAlone}
use Rattle.serve_session.specs.declared.tally.Tally.{Tally}
use Rattle.command_base.specs.Folders.{files_of}
use Rattle.load_command.specs.Commands.{load_commands, load_name}
use Rattle.load_command.specs.Growing.{HasRun, HaveStepped}
use Rattle.load_command.specs.Loads.{IsLoaded}
use Rattle.load_command.specs.Sums.{SumsUp, sum_of, sums}

-- ---- ten commands

pub have_run : (seed : ℕ) (before now : Outside) (last : Option Tally) → HaveStepped seed load_commands before None now last → (f : List Held) → before.host.folder ≡ Some f → HasRun seed now.host.folder last
have_run seed before now last (m1, h1, s1, (m2, h2, s2, (m3, h3, s3, (m4, h4, s4, (m5, h5, s5, (m6, h6, s6, (m7, h7, s7, (m8, h8, s8, (m9, h9, s9, (m10, h10, s10, (same, heard))))))))))) f told =
    let n0 = load_name 0 ∷ [] in
    let n1 = load_name 1 ∷ n0 in
    let n2 = load_name 2 ∷ n1 in
    let n3 = load_name 3 ∷ n2 in
    let d0 = with_writes seed 0 new_disk in
    let d1 = with_writes seed 1 d0 in
    let d2 = with_writes seed 2 d1 in
    let d3 = with_writes seed 3 d2 in
    let g1 = s1.grows f told in
    let g2 = s2.grows n0 new_disk g1.0 g1.1 g1.2 in
    let g3 = s3.grows n0 d0 (omega arith) g2.0 g2.1 g2.2 in
    let g4 = s4.grows n1 d0 g3.0 g3.1 g3.2 in
    let g5 = s5.grows n1 d1 (omega arith) g4.0 g4.1 g4.2 in
    let g6 = s6.grows n2 d1 g5.0 g5.1 g5.2 in
    let g7 = s7.grows n2 d2 (omega arith) g6.0 g6.1 g6.2 in
    let g8 = s8.grows n3 d2 g7.0 g7.1 g7.2 in
    let g9 = s9.grows n3 d3 (omega arith) g8.0 g8.1 g8.2 in
    let r = s10.grows g9.0 g9.1 g9.2 in
    subst (λ (o : Outside). HasRun seed o.host.folder last) (sym same) (subst (HasRun seed m10.host.folder) (sym heard) r)

-- ---- the lines

length_new : length new_disk ≡ 131072
unfolding zero_sectors
length_new = length-replicate 131072 (zeros 512)

length_with : (seed file : ℕ) (disk : Disk) → length (with_writes seed file disk) ≡ length disk
length_with seed file disk = length-replay 512 disk (preparing_history seed file)

length_left : (seed : ℕ) (h : History) → length (replay 512 (prepared_disk seed) h) ≡ 131072
length_left seed h =
    let d0 = with_writes seed 0 new_disk in
    let d1 = with_writes seed 1 d0 in
    let d2 = with_writes seed 2 d1 in
    length-replay 512 (prepared_disk seed) h ∙ length_with seed 3 d2 ∙ length_with seed 2 d1 ∙ length_with seed 1 d0 ∙ length_with seed 0 new_disk ∙ length_new

-- a disk of just so many sectors is summed whole
sum_all : (disk : Disk) → length disk ≡ 131072 → sum_of disk ≡ disk_sum disk
unfolding sum_of
sum_all disk long = ap disk_sum (take_all 131072 disk (omega (arith, long)))

same_lines : (a b c d e f g p q r s t u v : ℕ) → a ≡ p → b ≡ q → c ≡ r → d ≡ s → e ≡ t → f ≡ u → g ≡ v → lines_text a b c d e f g ≡ lines_text p q r s t u v
same_lines a b c d e f g p q r s t u v h1 h2 h3 h4 h5 h6 h7 =
    ap (λ x. lines_text x b c d e f g) h1 ∙ ap (λ x. lines_text p x c d e f g) h2 ∙ ap (λ x. lines_text p q x d e f g) h3 ∙ ap (λ x. lines_text p q r x e f g) h4
    ∙ ap (λ x. lines_text p q r s x f g) h5 ∙ ap (λ x. lines_text p q r s t x g) h6 ∙ ap (λ x. lines_text p q r s t u x) h7

-- what is so of loads
pub record Laws : Type 0 where
  pub alone : LoadsRunAlone
  pub ends : LoadsEndAlike
  pub count : LoadsAreCounted
  pub lines : LinesAreCounted

module _ (laws : Laws) where
  seen_alike : (seed : ℕ) (h : History) → IsHistoryOf (load_lines seed) h → seen_sum (prepared_disk seed) h ≡ seen_sum (prepared_disk seed) (one_thread seed)
  seen_alike seed h is = sym (sum_by-IsPermutation (λ (t : Told). seen_in t.told) (told_in 512 (prepared_disk seed) h) (told_in 512 (prepared_disk seed) (one_thread seed)) (laws.ends seed (prepared_disk seed) h is).all)

  module _ (seed : ℕ) (now : Option (List Held)) (tally : Tally) (r : HasRun seed now (Some tally)) where
    pub loaded : WhereTold now (IsLoaded seed)
    loaded folder told =
        let same = same_Some r.folder folder (sym r.told ∙ told) in
        let left = (laws.ends seed (prepared_disk seed) r.history r.of_lines).left in
        subst (IsLoaded seed) same (record { leads = r.leads; opens = subst (OpensTo (files_of r.folder) (load_name 4)) left r.opens })

    sum_is : (sum : ℕ) → WhereTold now (λ f. SumsUp f (load_name 4) (Ok sum)) → sum ≡ disk_sum (replay 512 (prepared_disk seed) r.history)
    sum_is sum ups = by_sums sum (ups r.folder r.told)
      where
        by_sums : (n : ℕ) → SumsUp r.folder (load_name 4) (Ok n) → n ≡ disk_sum (replay 512 (prepared_disk seed) r.history)
        by_sums n (sums disk opens) = ap sum_of (one_chain.disk (files_of r.folder) (load_name 4) disk (replay 512 (prepared_disk seed) r.history) opens r.opens) ∙ sum_all (replay 512 (prepared_disk seed) r.history) (length_left seed r.history)

    pub lines_exact : (counts : Counts) → AreCounted (load_lines seed) counts → (sum : ℕ) → WhereTold now (λ f. SumsUp f (load_name 4) (Ok sum))
        → lines_text counts.calls counts.writes counts.trims counts.reads counts.flushes sum tally.seen ≡ load_text seed
    lines_exact counts are sum ups =
        same_lines _ _ _ _ _ _ _ _ _ _ _ _ _ _ (are.calls ∙ (loads_have_lines seed).all ∙ sym (laws.count seed (one_thread seed) (laws.alone seed))) (are.writes ∙ laws.lines seed is_write) (are.trims ∙ laws.lines seed is_trim)
        (are.reads ∙ laws.lines seed is_read) (are.flushes ∙ laws.lines seed is_flush) (sum_is sum ups ∙ ap disk_sum (laws.ends seed (prepared_disk seed) r.history r.of_lines).left)
        (ap (λ (t : Tally). t.seen) (same_Some tally r.tally r.heard_is) ∙ r.seen_is ∙ seen_alike seed r.history r.of_lines)
