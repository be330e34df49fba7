-- A session over a folder's files: what its store tells is what the folder holds at each moment, and then.
use Rattle.std.proofs.Common.{◌≡◌, ◌≢◌, ℕ, zero, suc, ◌+◌, ◌<◌, ◌≤◌, Bool, true, false, List, [], ◌∷◌, ◌++◌, length, map, Option, Some, refl, sym, ap, subst, ◌∙◌, arith}
use Rattle.std.specs.List.{AllByRecursion}
use Rattle.std.specs.Prelude.{option_map, slice_index_or}
use Rattle.store_model.specs.File.{is_synced, seen}
use Rattle.store_model.specs.Folder.{Held, attached_trace, back_from, file_named, given_back, has_name, without}
use Rattle.store_model.specs.Trace.{NamedBytes, Trace, at_moment, file_of, moment}
use Rattle.store_model.proofs.Throughout.{attached-at_moment}
use Rattle.store_model.proofs.Spans.{at_moment-now}
use Rattle.vhdx_format.specs.Fields.{sector_size}
use Rattle.guest_model.specs.Calls.{Disk}
use Rattle.guest_model.specs.History.{History, replay}
use Rattle.chain_model.specs.Files.{IsIn, IsWhole, OpensTo, files_in}
use Rattle.chain_model.specs.Images.{members_of}
use Rattle.chain_model.specs.Members.{Member, NoneTwice, disk_of, first_name, Way}
use Rattle.chain_model.specs.Members as model
use Rattle.chain_model.specs.Sessions.{as_read}
use Rattle.chain_model.specs.Moments.{EachOpens, EachOpensToPrefix}
use Rattle.chain_model.proofs.Linking.{one_chain}
use Rattle.chain_model.proofs.Showing.{all_left}
use Rattle.link_rules.specs.Chains.{is_among, names_of}
use Rattle.link_rules.specs.Folders.{AllIdle, contents}
use Rattle.link_rules.specs.Laws.{AreMembers, IsTheChain, at_rest_all}
use Rattle.link_rules.specs.declared.linked.LinkedFile.{LinkedFile}
use Rattle.chain_core.specs.Answering.{EachLinks}
use Rattle.chain_core.specs.Starting.{opening_disk, placed_from as placed, way_to}
use Rattle.command_base.specs.Commands.{AreOpened, placed_from}
use Rattle.script_session.specs.Histories.{Break, IsSoLong}
use Rattle.script_session.specs.Running.{open_last}
use Rattle.chain_core.specs.Sealed.{IsKept}
use Rattle.steps_command.specs.Crashes.{AreSpared, EachImageOpens, HasLong, OpensToFirst}
use Rattle.steps_command.specs.Sessions.{LeadsWhole}
use Rattle.command_base.specs.Folders.{LeadsTo, files_of}
use Rattle.command_base.proofs.Back.{placed_are, placed_in}
use Rattle.command_base.proofs.Followed.{last_in, same_members, last_once}
use Rattle.command_base.proofs.Lent.{back_over, each_at, names_attached, names_in, opened_there}
use Rattle.steps_command.proofs.Reopened.{OutOf, images_link, images_relink, images_reopen, way_at}
use Rattle.steps_command.proofs.Resting.{leads_at_rest, opens_at_rest}
use Rattle.steps_command.proofs.Returned.{AreBack, are_back}
use Rattle.steps_command.proofs.Sparing.{are_spared, kept_before, spared_idle}

-- ---- names

-- the retired leaves' names stand before those of the chain's files
out_of_one : (name : List ℕ) (names : List (List ℕ)) (rest : List (List ℕ)) → AllByRecursion (λ other. other ≢ name) (rest ++ names) → AllByRecursion (λ other. other ≢ name) names
out_of_one name names [] h = h
out_of_one name names (r ∷ rest) h = out_of_one name names rest h.1

out_of : (outer : List Member) (names : List (List ℕ)) → NoneTwice (model.names_of outer ++ names) → OutOf names outer
out_of [] names once = tt
out_of (m ∷ outer) names once = (out_of_one m.name names (model.names_of outer) once.0, out_of outer names once.1)

first_once_of : (names rest : List (List ℕ)) → NoneTwice (names ++ rest) → NoneTwice names
first_once_of [] rest once = tt
first_once_of (name ∷ names) rest once = (apart_first names once.0, first_once_of names rest once.1)
  where
    apart_first : (some : List (List ℕ)) → AllByRecursion (λ other. other ≢ name) (some ++ rest) → AllByRecursion (λ other. other ≢ name) some
    apart_first [] h = tt
    apart_first (other ∷ some) h = (h.0, apart_first some h.1)

same_placed : (trace : Trace) (i : ℕ) (files : List LinkedFile) → placed trace i files ≡ placed_from i files trace
same_placed trace i [] = refl
same_placed trace i (file ∷ files) = ap (λ rest. as_read trace i (seen (file_of trace i)) file.parts ∷ rest) (same_placed trace (i + 1) files)

-- files that came back are found under their names
named_at : (i n : ℕ) (files : List NamedBytes) (trace : Trace) (now : List Held) → n < length files → AreBack i files trace now → file_named (slice_index_or (names_in files) n []) now ≡ Some (file_of trace (i + n))
unfolding names_in
named_at i n [] trace now inside back = absurd (omega (arith, inside))
named_at i zero (f ∷ files) trace now inside back = let same : i + 0 ≡ i = omega arith in subst (λ k. file_named f.name now ≡ Some (file_of trace k)) (sym same) back.0
named_at i (suc n) (f ∷ files) trace now inside back =
    let same : i + 1 + n ≡ i + suc n = omega arith in
    subst (λ k. file_named (slice_index_or (names_in files) n []) now ≡ Some (file_of trace k)) same (named_at (i + 1) n files trace now (omega (arith, inside)) back.1)

are_given : (names : List (List ℕ)) (folder : List Held) → NoneTwice names → AllByRecursion (λ name. has_name name folder ≡ true) names → (trace : Trace) → names_in trace.attached ≡ names → AreBack 0 trace.attached trace (given_back trace (without names folder))
are_given names folder once there trace same =
    let now_is : given_back trace (without names folder) ≡ back_from 0 trace.attached trace folder =
    ap (λ ns. back_from 0 trace.attached trace (without ns folder)) (sym same) ∙ back_over 0 trace.attached trace folder (subst NoneTwice (sym same) once) in
    subst (AreBack 0 trace.attached trace) (sym now_is) (are_back 0 trace.attached trace folder (subst NoneTwice (sym same) once) (subst (AllByRecursion (λ name. has_name name folder ≡ true)) (sym same) there))

module _ (retired : List (List ℕ)) (leaf : LinkedFile) (others : List LinkedFile) (folder : List Held) (idle : AllIdle folder) (once : NoneTwice (retired ++ names_of (leaf ∷ others)))
    (opened : AreOpened (contents folder) (leaf ∷ others)) (name : List ℕ) (chain : IsTheChain (contents folder) name (record { retired = retired; files = leaf ∷ others })) where
  abbrev pub names : List (List ℕ)
  names = names_of (leaf ∷ others)

  abbrev pub old : Trace
  old = attached_trace names folder

  names_once : NoneTwice names
  names_once = last_once retired (names_of (leaf ∷ others)) once

  there : AllByRecursion (λ n. has_name n folder ≡ true) names
  there = opened_there folder (leaf ∷ others) opened

  -- the disk that was opened is the chain's
  pub opening_is : opening_disk old (leaf ∷ others) ≡ disk_of chain.chain
  opening_is =
      ap (λ ps. disk_of (members_of ps)) (same_placed old 0 (leaf ∷ others))
      ∙ ap disk_of (same_members (at_rest_all (contents folder)) (members_of (placed_from 0 (leaf ∷ others) old)) chain.chain (leaf ∷ others)
      (placed_in (names_of (leaf ∷ others)) folder 0 (leaf ∷ others) (each_at old.attached) opened)
      (last_in (IsIn (at_rest_all (contents folder))) chain.retired chain.chain chain.linked.there) (placed_are (names_of (leaf ∷ others)) folder 0 (leaf ∷ others) (each_at old.attached)) chain.members)

  pub same_disk : (disk : Disk) → OpensTo (files_of folder) name disk → disk ≡ opening_disk old (leaf ∷ others)
  same_disk disk opens = one_chain.disk (files_of folder) name disk (disk_of chain.chain) opens (record { retired = chain.retired; chain = chain.chain; linked = chain.linked; is = refl }) ∙ sym opening_is

  first_is : first_name chain.chain ≡ leaf.name
  first_is = by_chain chain.chain chain.members
    where
      by_chain : (members : List Member) → AreMembers members (leaf ∷ others) → first_name members ≡ leaf.name
      by_chain [] are = absurd are
      by_chain (m ∷ members) are = are.0.name

  retired_out : OutOf names chain.retired
  retired_out = out_of chain.retired (names_of (leaf ∷ others)) (subst (λ rs. NoneTwice (rs ++ names_of (leaf ∷ others))) (sym chain.names) once)

  retired_once : NoneTwice (model.names_of chain.retired)
  retired_once = subst NoneTwice (sym chain.names) (first_once_of retired (names_of (leaf ∷ others)) once)

  module _ (whole : LeadsWhole (files_of folder) name (names_of (leaf ∷ others))) (drops : Option (List ℕ)) (changed : List (List ℕ)) (written : ℕ → Bool) (may : (n : ℕ) → written n ≡ true → is_among (slice_index_or (names_of (leaf ∷ others)) n []) changed ≡ true) (trace : Trace) (same : trace.attached ≡ old.attached)
      (still : (other : ℕ) → written other ≡ false → IsKept (file_of old other) (file_of trace other)) where
    abbrev pub rest : List Held
    rest = without names folder

    -- where the leaf's own name leads, and where the name does that was given
    abbrev pub way : Way
    way = way_to leaf (leaf ∷ others) drops

    abbrev pub outer : Way
    outer = record way { name = name }

    attached_at : (k : ℕ) → (at_moment k trace).attached ≡ old.attached
    attached_at k = attached-at_moment k trace ∙ same

    names_at : (k : ℕ) → names_in (at_moment k trace).attached ≡ names
    unfolding names_in
    names_at k = ap (λ files. map (λ (f : NamedBytes). f.name) files) (attached_at k) ∙ names_attached (names_of (leaf ∷ others)) folder

    -- what the store opens to at a moment the folder opens to
    reopens : (k : ℕ) (among : ℕ → Bool) (disk : Disk) → EachOpens way among disk (at_moment k trace) → EachImageOpens outer among disk (given_back (at_moment k trace) rest)
    reopens k among disk opens =
        images_reopen folder names idle names_once there name chain.retired chain.chain chain.linked retired_out retired_once (at_moment k trace) (names_at k)
        (all_left (IsWhole (files_of folder)) chain.retired chain.chain (whole chain.retired chain.chain chain.linked).1) way.first drops among disk
        (subst (λ n. EachOpens (way_at n way.first drops) among disk (at_moment k trace)) (sym first_is) opens)

    pub spared_at : (k : ℕ) → AreSpared changed folder (given_back (at_moment k trace) rest)
    spared_at k = are_spared changed (names_of (leaf ∷ others)) folder idle names_once there written may (at_moment k trace) (attached_at k) (λ other apart. kept_before other k old trace refl same (still other apart))

    now_at : at_moment (moment trace) trace ≡ trace
    now_at = at_moment-now trace

    pub spared_now : AreSpared changed folder (given_back trace rest)
    spared_now = subst (λ t. AreSpared changed folder (given_back t rest)) now_at (spared_at (moment trace))

    pub idle_now : ((n : ℕ) → written n ≡ true → is_synced (file_of trace n) ≡ true) → AllIdle (given_back trace rest)
    idle_now synced = spared_idle changed (names_of (leaf ∷ others)) folder idle names_once there written may trace same still synced

    -- each moment of the store is one of the folder
    pub first_at : (h : History) (is_broken : ℕ → Bool) → EachOpensToPrefix sector_size (opening_disk old (leaf ∷ others)) h is_broken way old trace → (disk : Disk) → OpensTo (files_of folder) name disk
        → (k : ℕ) → k ≤ moment trace → OpensToFirst outer disk h is_broken (given_back (at_moment k trace) rest)
    unfolding moment
    first_at h is_broken past disk opens k within =
        let p = past.each k (start k) within in
        subst (λ d. OpensToFirst outer d h is_broken (given_back (at_moment k trace) rest)) (sym (same_disk disk opens)) (record { m = p.m; within = p.within; opens = reopens k _ _ p.opens })
      where
        start : (k : ℕ) → moment old ≤ k
        start k = omega arith

    pub first_now : (h : History) (is_broken : ℕ → Bool) → EachOpensToPrefix sector_size (opening_disk old (leaf ∷ others)) h is_broken way old trace → (disk : Disk) → OpensTo (files_of folder) name disk
        → OpensToFirst outer disk h is_broken (given_back trace rest)
    first_now h is_broken past disk opens = subst (λ t. OpensToFirst outer disk h is_broken (given_back t rest)) now_at (first_at h is_broken past disk opens (moment trace) (omega arith))

    -- at its end it opens to the disk of all, outside the sectors that are open then
    pub last_now : (h : History) (broken : Option Break) → EachOpens way (open_last h broken) (replay sector_size (opening_disk old (leaf ∷ others)) h) trace → (disk : Disk) → OpensTo (files_of folder) name disk
        → EachImageOpens outer (open_last h broken) (replay sector_size disk h) (given_back trace rest)
    last_now h broken last disk opens =
        subst (λ d. EachImageOpens outer (open_last h broken) (replay sector_size d h) (given_back trace rest)) (sym (same_disk disk opens))
        (subst (λ t. EachImageOpens outer (open_last h broken) (replay sector_size (opening_disk old (leaf ∷ others)) h) (given_back t rest)) now_at
        (reopens (moment trace) (open_last h broken) (replay sector_size (opening_disk old (leaf ∷ others)) h) (subst (EachOpens way (open_last h broken) (replay sector_size (opening_disk old (leaf ∷ others)) h)) (sym now_at) last)))

    -- a file that may be changed is as long as the store's
    pub long_now : (may_be : ℕ → Bool) (among : List (List ℕ)) → ((n : ℕ) → may_be n ≡ true → is_among (slice_index_or (names_of (leaf ∷ others)) n []) among ≡ true) → (next : ℕ) → IsSoLong may_be trace next → HasLong among next (given_back trace rest)
    long_now may_be among can next l =
        let first : 0 + l.number ≡ l.number = omega arith in
        let at = subst (λ k. file_named (slice_index_or (names_in trace.attached) l.number []) (given_back trace rest) ≡ Some (file_of trace k)) first (named_at 0 l.number trace.attached trace (given_back trace rest) l.there are_now) in
        record {
          name = slice_index_or (names_of (leaf ∷ others)) l.number [];
          bytes = seen (file_of trace l.number);
          among = can l.number l.may_change;
          there = ap (option_map seen) (subst (λ ns. file_named (slice_index_or ns l.number []) (given_back trace rest) ≡ Some (file_of trace l.number)) names_last at);
          long = l.long;
        }
      where
        names_last : names_in trace.attached ≡ names_of (leaf ∷ others)
        names_last = subst (λ t. names_in t.attached ≡ names) now_at (names_at (moment trace))

        are_now : AreBack 0 trace.attached trace (given_back trace rest)
        are_now = are_given (names_of (leaf ∷ others)) folder names_once there trace names_last

    -- a file has what the store's has
    pub has_now : (n : ℕ) → n < length trace.attached → contents (given_back trace rest) (slice_index_or (names_of (leaf ∷ others)) n []) ≡ Some (seen (file_of trace n))
    has_now n inside =
        let first : 0 + n ≡ n = omega arith in
        let at = subst (λ k. file_named (slice_index_or (names_in trace.attached) n []) (given_back trace rest) ≡ Some (file_of trace k)) first (named_at 0 n trace.attached trace (given_back trace rest) inside are_now) in
        ap (option_map seen) (subst (λ ns. file_named (slice_index_or ns n []) (given_back trace rest) ≡ Some (file_of trace n)) names_last at)
      where
        names_last : names_in trace.attached ≡ names_of (leaf ∷ others)
        names_last = subst (λ t. names_in t.attached ≡ names) now_at (names_at (moment trace))

        are_now : AreBack 0 trace.attached trace (given_back trace rest)
        are_now = are_given (names_of (leaf ∷ others)) folder names_once there trace names_last

    -- at its end nothing is unsynced, and the folder opens to the disk
    pub opens_now : (h : History) → ((n : ℕ) → written n ≡ true → is_synced (file_of trace n) ≡ true) → EachOpens way (λ s. false) (replay sector_size (opening_disk old (leaf ∷ others)) h) trace → (disk : Disk) → OpensTo (files_of folder) name disk
        → OpensTo (files_of (given_back trace rest)) name (replay sector_size disk h)
    opens_now h synced opens disk is =
        subst (λ d. OpensTo (files_of (given_back trace rest)) name (replay sector_size d h)) (sym (same_disk disk is))
        (opens_at_rest (given_back trace rest) outer (replay sector_size (opening_disk old (leaf ∷ others)) h) (idle_now synced)
        (subst (λ t. EachImageOpens outer (λ s. false) (replay sector_size (opening_disk old (leaf ∷ others)) h) (given_back t rest)) now_at
        (reopens (moment trace) (λ s. false) (replay sector_size (opening_disk old (leaf ∷ others)) h) (subst (EachOpens way (λ s. false) (replay sector_size (opening_disk old (leaf ∷ others)) h)) (sym now_at) opens))))

    -- there the name leads to the files to which each image led, and so does the name of the chain's first file
    module _ (h : History) (files : List (List ℕ)) (synced : (n : ℕ) → written n ≡ true → is_synced (file_of trace n) ≡ true) (opens : EachOpens way (λ s. false) (replay sector_size (opening_disk old (leaf ∷ others)) h) trace)
        (links : EachLinks leaf.name files trace) where
      abbrev last_disk : Disk
      last_disk = replay sector_size (opening_disk old (leaf ∷ others)) h

      abbrev names_last : names_in trace.attached ≡ names
      names_last = subst (λ t. names_in t.attached ≡ names) now_at (names_at (moment trace))

      pub leads_now : LeadsTo (files_of (given_back trace rest)) name files
      leads_now =
          leads_at_rest (given_back trace rest) name files (idle_now synced)
          (images_relink folder names idle names_once there name chain.retired chain.chain chain.linked retired_out retired_once trace names_last way.first drops (λ s. false) last_disk files
          (subst (λ n. EachOpens (way_at n way.first drops) (λ s. false) last_disk trace) (sym first_is) opens) (subst (λ n. EachLinks n files trace) (sym first_is) links))

      pub first_leads_now : LeadsTo (files_of (given_back trace rest)) leaf.name files
      first_leads_now =
          leads_at_rest (given_back trace rest) leaf.name files (idle_now synced)
          (λ image is. subst (λ n. LeadsTo (files_in image) n files) first_is
          (images_link folder names idle names_once there name chain.retired chain.chain chain.linked retired_out retired_once trace names_last way.first drops (λ s. false) last_disk files
          (subst (λ n. EachOpens (way_at n way.first drops) (λ s. false) last_disk trace) (sym first_is) opens) (subst (λ n. EachLinks n files trace) (sym first_is) links) image is))
