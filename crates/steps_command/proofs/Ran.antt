-- What a host is left with behind a session over a chain's files.
use Rattle.std.proofs.Common.{◌≡◌, ◌⊎◌, ℕ, zero, suc, ◌+◌, ◌≤◌, Bool, true, false, List, [], ◌∷◌, ◌++◌, length, map, Option, Some, None, refl, sym, ap, subst, ◌∙◌, arith}
use Rattle.std.specs.Prelude.{option_map, slice_index_or}
use Rattle.std.proofs.lemmas.List.{length-map}
use Rattle.std.specs.List.{AllByRecursion}
use Rattle.std.proofs.lemmas.Option.{same_Some}
use Rattle.command_base.proofs.Followed.{last_once}
use Rattle.store_model.specs.Disk.{Disk as StoreDisk, WhereBothTold, WhereTold}
use Rattle.store_model.specs.File as stored
use Rattle.store_model.specs.File.{is_synced, seen}
use Rattle.store_model.specs.Folder.{AreAway, HasFailed, Held, Hosted, IsKept, KeepsStore, Returned, RoseWhere, attached_trace, come_back, given_back, without}
use Rattle.store_model.specs.Moments.{LastReturnedCounts, Throughout}
use Rattle.store_model.specs.Trace.{NamedBytes, Trace, at_moment, file_of, moment}
use Rattle.store_model.specs.declared.fault.StoreFault.{StoreFault}
use Rattle.store_model.proofs.Throughout.{last_one, throughout_back, throughout_still}
use Rattle.store_model.proofs.Spans.{at_moment-now}
use Rattle.vhdx_format.specs.Fields.{sector_size}
use Rattle.guest_model.specs.Calls.{Disk}
use Rattle.guest_model.specs.History.{History, replay}
use Rattle.chain_model.specs.Files.{OpensTo, at_rest, files_in}
use Rattle.chain_model.specs.Members.{NoneTwice, Way}
use Rattle.chain_model.specs.Moments.{EachOpens, EachOpensToPrefix, is_open}
use Rattle.chain_model.proofs.Linking.{all_whole_in_more, more_files_link_alike}
use Rattle.link_rules.specs.Chains.{is_among, names_of}
use Rattle.link_rules.specs.Folders.{AllIdle, contents}
use Rattle.link_rules.specs.declared.linked.Linked.{Linked}
use Rattle.link_rules.specs.declared.linked.LinkedFile.{LinkedFile}
use Rattle.chain_core.specs.Answering.{EachLinks}
use Rattle.chain_core.specs.Starting.{opening_disk, way_to}
use Rattle.chain_core.specs.declared.starting.Mode.{Mode}
use Rattle.script_session.specs.Histories.{Break, IsEndTold, IsSoLong}
use Rattle.script_session.specs.Running.{open_by, open_last}
use Rattle.script_session.specs.Told.{Told}
use Rattle.script_session.proofs.Lengths.{ends_later}
use Rattle.chain_core.specs.Sealed.{IsKept as IsKeptFile}
use Rattle.command_base.specs.Commands.{AreAnew, Lends}
use Rattle.steps_command.specs.Crashes.{AreSpared, EachImageOpens, HasLong, IsSpared, NoneNamesLog, OpensToFirst}
use Rattle.steps_command.specs.Crashes as spared
use Rattle.command_base.specs.Folders.{AllHome, LastReturned, LeadsTo, files_of}
use Rattle.steps_command.specs.Starts.{changed_names}
use Rattle.steps_command.specs.Sessions.{IsChainIn, LeadsWhole, Rests, Stands, is_reading, leaf_name}
use Rattle.layer_session.specs.Unnamed.{NamesNoLog}
use Rattle.command_base.proofs.Home.{home_of_idle}
use Rattle.command_base.proofs.Lent.{all_back, anew_contents, anew_idle, are_away, names_attached, names_in, opened_there}
use Rattle.steps_command.proofs.Resting.{rest_opens}
use Rattle.steps_command.proofs.Sparing.{anew_spared, still_spared}
use Rattle.steps_command.proofs.Unlogged.{IsUnlogged}
use Rattle.steps_command.proofs.Serving.{first_at, first_leads_now, first_now, has_now, idle_now, last_now, leads_now, long_now, opens_now, spared_at, spared_now}
use Rattle.steps_command.specs.Steps.{way_by}
use Rattle.chain_model.proofs.Serving.{opens_wider}

-- ---- what is told before and after

pub both_told : {T : Type 0} (R : T → T → Type 0) (a b : Option T) (x : T) → a ≡ Some x → WhereBothTold R a b → (y : T) × (b ≡ Some y) × R x y
both_told R None None x e h = cc
both_told R None (Some b) x e h = absurd h
both_told R (Some a) None x e h = absurd h
both_told R (Some a) (Some b) x e h = (b, refl, subst (λ z. R z b) (same_Some a x e) h)

pub told_first : {T : Type 0} (R : T → T → Type 0) (a b : Option T) (y : T) → b ≡ Some y → WhereBothTold R a b → (x : T) × (a ≡ Some x) × R x y
told_first R None None y e h = cc
told_first R None (Some b) y e h = absurd h
told_first R (Some a) None y e h = absurd h
told_first R (Some a) (Some b) y e h = (a, refl, subst (R a) (same_Some b y e) h)

-- ---- a folder to which nothing was done

pub home_spared : (changed : List (List ℕ)) (folder now : List Held) → AllHome folder → AreSpared changed folder now → AllHome now
home_spared changed [] [] home h = home
home_spared changed [] (later ∷ now) home h = absurd h
home_spared changed (held ∷ folder) [] home h = absurd h
home_spared changed (held ∷ folder) (later ∷ now) home h = by_place (home_spared changed folder now (λ k d w. home (suc k) d (omega (arith, w))) h.1)
  where
    by_held : (later : Held) → IsSpared changed held later → (file : stored.File) × (later.file ≡ Some file)
    by_held _ (spared.may_change file among) = (file, refl)
    by_held _ spared.untouched = home zero held (omega arith)
    by_held _ (spared.attached file after had same synced) = (after, refl)

    by_place : AllHome now → AllHome (later ∷ now)
    by_place rest zero d w = by_held later h.0
    by_place rest (suc k) d w = rest k d (omega (arith, w))

-- a disk that is opened is opened whatever sectors are left out
pub widen : (leaf : Way) (among : ℕ → Bool) (disk : Disk) (trace : Trace) → EachOpens leaf (λ s. false) disk trace → EachOpens leaf among disk trace
widen leaf among disk trace opens image is =
    let o = opens image is in
    record { retired = o.retired; chain = o.chain; linked = o.linked; by = o.by; whole = o.whole; agrees = record { sectors = o.agrees.sectors; same = λ i apart. o.agrees.same i refl } }

-- on a way on which something may be dropped too
pub widen_by : (leaf : Way) (drops : Option (List ℕ)) (among : ℕ → Bool) (disk : Disk) (trace : Trace) → leaf.drops ≡ None → EachOpens leaf (λ s. false) disk trace → EachOpens (record leaf { drops = drops }) among disk trace
widen_by leaf drops among disk trace none opens = widen (record leaf { drops = drops }) among disk trace (λ image is. opens_wider (files_in image) leaf drops (λ s. false) disk none (opens image is))

-- a folder at rest that has what another has opens as that one
rests_as : (folder now : List Held) (name : List ℕ) → ((n : List ℕ) → contents now n ≡ contents folder n) → (disk : Disk) → OpensTo (files_of folder) name disk → OpensTo (files_of now) name disk
rests_as folder now name same disk opens = record {
  retired = opens.retired;
  chain = opens.chain;
  linked = more_files_link_alike (files_of folder) (files_of now) name opens.retired opens.chain (λ n file had. ap (option_map at_rest) (same n) ∙ had) opens.linked;
  is = opens.is;
}

-- so are its files no shorter than what they settle to
whole_as : (folder now : List Held) (name : List ℕ) (names : List (List ℕ)) → ((n : List ℕ) → contents now n ≡ contents folder n) → LeadsWhole (files_of folder) name names → LeadsWhole (files_of now) name names
whole_as folder now name names same whole retired chain linked =
    let before = more_files_link_alike (files_of now) (files_of folder) name retired chain (λ n file had. sym (ap (option_map at_rest) (same n)) ∙ had) linked in
    let is = whole retired chain before in
    (is.0, all_whole_in_more (files_of folder) (files_of now) (λ n file had. ap (option_map at_rest) (same n) ∙ had) (retired ++ chain) before.there is.1)

first_rests : (now : List Held) (name : Way) (is_broken : ℕ → Bool) (disk : Disk) → AllIdle now → LeadsWhole (files_of now) name.name name.first → OpensTo (files_of now) name.name disk → OpensToFirst name disk [] is_broken now
first_rests now name is_broken disk idle whole opens = record {
  m = 0;
  within = omega arith;
  opens =
      subst (λ d. EachImageOpens name (λ s. is_open sector_size [] is_broken 0 s) d now) opens.is
      (rest_opens now name (λ s. is_open sector_size [] is_broken 0 s) opens.retired opens.chain idle whole opens.linked);
}

last_rests : (now : List Held) (name : Way) (disk : Disk) → AllIdle now → LeadsWhole (files_of now) name.name name.first → OpensTo (files_of now) name.name disk → EachImageOpens name (open_last [] None) disk now
last_rests now name disk idle whole opens = subst (λ d. EachImageOpens name (open_last [] None) d now) opens.is (rest_opens now name (open_last [] None) opens.retired opens.chain idle whole opens.linked)

-- a host that stays as it was
module _ (mode : Mode) (merge : Option (List ℕ)) (linked : Linked) (folder : List Held) (old new : Hosted) (idle : AllIdle folder) (whole : LeadsWhole (files_of folder) (leaf_name linked) (names_of linked.files)) (told : old.folder ≡ Some folder) (folder_is : new.folder ≡ old.folder) (past_is : new.past ≡ old.past) where
  same_folder : (g : List Held) → new.folder ≡ Some g → folder ≡ g
  same_folder g is = same_Some folder g (sym told ∙ sym folder_is ∙ is)

  pub still_stands : Stands mode merge linked [] None folder old new
  still_stands = record {
    moments = λ disk opens. throughout_still (OpensToFirst (way_by (leaf_name linked) linked merge) disk [] (open_by None)) old new past_is
        (λ g is. subst (OpensToFirst (way_by (leaf_name linked) linked merge) disk [] (open_by None)) (same_folder g is) (first_rests folder (way_by (leaf_name linked) linked merge) (open_by None) disk idle whole opens));
    last = λ disk opens g is. subst (EachImageOpens (way_by (leaf_name linked) linked merge) (open_last [] None) disk) (same_folder g is) (last_rests folder (way_by (leaf_name linked) linked merge) disk idle whole opens);
    spared = throughout_still (AreSpared (changed_names (is_reading mode) merge linked.files) folder) old new past_is
        (λ g is. subst (AreSpared (changed_names (is_reading mode) merge linked.files) folder) (same_folder g is) (still_spared (changed_names (is_reading mode) merge linked.files) folder));
    unchanged = λ reading g is name. ap (λ x. contents x name) (sym (same_folder g is));
    home = λ g is. subst AllHome (same_folder g is) (home_of_idle folder idle);
  }

  pub still_rests : Rests linked [] folder old new
  still_rests = record {
    idle = λ f is g also. subst AllIdle (same_folder g also) idle;
    opens = λ disk opens g is. subst (λ x. OpensTo (files_of x) (leaf_name linked) disk) (same_folder g is) opens;
  }

-- ---- files that are lent and come back

kept_told : (store : Returned) (before after : Option (List Returned)) → IsKept store before after → (now : List Returned) → after ≡ Some now → (b : List Returned) × (before ≡ Some b) × (now ≡ store ∷ b)
kept_told store before None h now is = let never : None ≡ Some now = is in cc
kept_told store None (Some after) h now is = let never : Some after ≡ None = h in cc
kept_told store (Some before) (Some after) h now is = (before, refl, sym (same_Some after now is) ∙ same_Some after (store ∷ before) h)

-- what a session leaves of the files' trace, which may change some files
pub record Changed (written : ℕ → Bool) (before now : Trace) : Type 0 where
  pub attached : now.attached ≡ before.attached
  pub still : (other : ℕ) → written other ≡ false → IsKeptFile (file_of before other) (file_of now other)

module _ (retired : List (List ℕ)) (leaf : LinkedFile) (others : List LinkedFile) (old mid : Hosted) (lent : StoreDisk) (idle : WhereTold old.folder AllIdle) (once : NoneTwice (retired ++ names_of (leaf ∷ others)))
    (chain : WhereTold old.folder (IsChainIn (record { retired = retired; files = leaf ∷ others }))) (lends : Lends (names_of (leaf ∷ others)) old mid lent) (disk : StoreDisk) (mode : Mode) (merge : Option (List ℕ)) (written : ℕ → Bool)
    (may : (n : ℕ) → written n ≡ true → is_among (slice_index_or (names_of (leaf ∷ others)) n []) (changed_names (is_reading mode) merge (leaf ∷ others)) ≡ true) (changed : WhereBothTold (Changed written) lent.told disk.told) where
  abbrev pub L : Linked
  L = record { retired = retired; files = leaf ∷ others }

  abbrev pub names : List (List ℕ)
  names = names_of (leaf ∷ others)

  abbrev pub trace_of : List Held → Trace
  trace_of f = attached_trace names f

  lent_told : (f : List Held) → old.folder ≡ Some f → lent.told ≡ Some (trace_of f)
  lent_told f told = ap (λ (d : StoreDisk). d.told) lends.disk_is ∙ ap (option_map (attached_trace names)) told

  mid_folder : (f : List Held) → old.folder ≡ Some f → mid.folder ≡ Some (without names f)
  mid_folder f told = ap (λ (h : Hosted). h.folder) lends.host_is ∙ ap (option_map (without names)) told

  told_before : (t : Trace) → lent.told ≡ Some t → (f : List Held) × (old.folder ≡ Some f) × (t ≡ trace_of f)
  told_before t told = by_folder old.folder refl
    where
      by_folder : (folder : Option (List Held)) → old.folder ≡ folder → (f : List Held) × (old.folder ≡ Some f) × (t ≡ trace_of f)
      by_folder None e = let never : None ≡ Some t = sym (ap (option_map (attached_trace names)) e) ∙ sym (ap (λ (d : StoreDisk). d.told) lends.disk_is) ∙ told in cc
      by_folder (Some f) e = (f, e, same_Some t (trace_of f) (sym told ∙ lent_told f e))

  names_told : (f : List Held) (t : Trace) → t.attached ≡ (trace_of f).attached → names_in t.attached ≡ names
  unfolding names_in
  names_told f t same = ap (map _) same ∙ names_attached names f

  -- where the folder is told, what the store tells in the end
  pub now_told : (f : List Held) → old.folder ≡ Some f → (t : Trace) × (disk.told ≡ Some t) × Changed written (trace_of f) t
  now_told f told = both_told (Changed written) lent.told disk.told (trace_of f) (lent_told f told) changed

  pub back_requires : WhereTold mid.folder (λ folder. WhereTold disk.told (λ trace. AreAway trace folder))
  back_requires g is t told =
      let first = told_first (Changed written) lent.told disk.told t told changed in
      let b = told_before first.0 first.1 in
      let rest : without names b.0 ≡ g = same_Some _ g (sym (mid_folder b.0 b.1) ∙ is) in
      let same : t.attached ≡ (trace_of b.0).attached = first.2.attached ∙ ap (λ (x : Trace). x.attached) b.2 in
      subst (AreAway t) rest (are_away names b.0 t (names_told b.0 t same) (opened_there b.0 (leaf ∷ others) (chain b.0 b.1).opened))

  module _ (now : Hosted) (back_is : WhereTold disk.told (λ trace. now.folder ≡ option_map (given_back trace) mid.folder)) (past_is : KeepsStore disk mid now) (count : RoseWhere (HasFailed disk) mid.faults now.faults) where
    faults : mid.faults ≡ old.faults
    faults = ap (λ (h : Hosted). h.faults) lends.host_is

    no_fault : (file : ℕ) → lent.failed_reads file + lent.failed_changes file ≡ 0
    no_fault file = ap (λ (d : StoreDisk). d.failed_reads file + d.failed_changes file) lends.disk_is

    -- with no fault the host's count stays
    pub quiet_back : disk ≡ record lent { told = disk.told } → now.faults ≡ old.faults
    quiet_back same = count.none (λ (file, there, failed). failed (ap (λ (d : StoreDisk). d.failed_reads file + d.failed_changes file) same ∙ no_fault file)) ∙ faults

    module _ (f : List Held) (told : old.folder ≡ Some f) where
      abbrev pub t : Trace
      t = (now_told f told).0

      t_told : disk.told ≡ Some t
      t_told = (now_told f told).1

      is_changed : Changed written (trace_of f) t
      is_changed = (now_told f told).2

      abbrev pub rest : List Held
      rest = without names f

      now_is : now.folder ≡ Some (given_back t rest)
      now_is = back_is t t_told ∙ ap (option_map (given_back t)) (mid_folder f told)

      kept : IsKept (come_back disk t rest) old.past now.past
      kept = subst (λ p. IsKept (come_back disk t (without names f)) p now.past) (ap (λ (h : Hosted). h.past) lends.host_is) (past_is t t_told (without names f) (mid_folder f told))

      throughout : (P : List Held → Type 0) → ((k : ℕ) → k ≤ moment t → P (given_back (at_moment k t) rest)) → P (given_back t rest) → Throughout P old now
      throughout P each last = throughout_back P old now (come_back disk t rest) kept each (λ g is. subst P (same_Some _ g (sym now_is ∙ is)) last)

      in_now : (P : List Held → Type 0) → P (given_back t rest) → WhereTold now.folder P
      in_now P p g is = subst P (same_Some _ g (sym now_is ∙ is)) p

      idle_f : AllIdle f
      idle_f = idle f told

      is_chain : IsChainIn L f
      is_chain = chain f told

      pub last_counts : (fault : StoreFault) → (fault.count ≡ disk.failed_reads fault.file) ⊎ (fault.count ≡ disk.failed_changes fault.file) → LastReturnedCounts fault.count old now
      last_counts fault counted = last_one fault.count fault.file old now (come_back disk t rest) kept counted

      pub stands : (h : History) (broken : Option Break) → EachOpensToPrefix sector_size (opening_disk (trace_of f) (leaf ∷ others)) h (open_by broken) (way_to leaf (leaf ∷ others) merge) (trace_of f) t → (is_reading mode ≡ true → t ≡ trace_of f)
          → EachOpens (way_to leaf (leaf ∷ others) merge) (open_last h broken) (replay sector_size (opening_disk (trace_of f) (leaf ∷ others)) h) t → Stands mode merge L h broken f old now
      stands h broken past reading last = record {
        moments = λ d opens.
            throughout (OpensToFirst (way_by (leaf_name L) L merge) d h (open_by broken))
            (first_at retired leaf others f idle_f once is_chain.opened (leaf_name L) is_chain.chain is_chain.whole merge (changed_names (is_reading mode) merge (leaf ∷ others)) written may t is_changed.attached is_changed.still h (open_by broken) past d opens)
            (first_now retired leaf others f idle_f once is_chain.opened (leaf_name L) is_chain.chain is_chain.whole merge (changed_names (is_reading mode) merge (leaf ∷ others)) written may t is_changed.attached is_changed.still h (open_by broken) past d opens);
        last = λ d opens. in_now (EachImageOpens (way_by (leaf_name L) L merge) (open_last h broken) (replay sector_size d h))
            (last_now retired leaf others f idle_f once is_chain.opened (leaf_name L) is_chain.chain is_chain.whole merge (changed_names (is_reading mode) merge (leaf ∷ others)) written may t is_changed.attached is_changed.still h broken last d opens);
        spared = throughout (AreSpared (changed_names (is_reading mode) merge (leaf ∷ others)) f) spared_then last_spared;
        unchanged = λ read. in_now (λ g. (name : List ℕ) → contents g name ≡ contents f name) (unchanged_back (reading read));
        home = in_now AllHome (home_spared (changed_names (is_reading mode) merge (leaf ∷ others)) f (given_back t rest) (home_of_idle f idle_f) last_spared);
      }
        where
          last_spared : AreSpared (changed_names (is_reading mode) merge (leaf ∷ others)) f (given_back t rest)
          last_spared = spared_now retired leaf others f idle_f once is_chain.opened (leaf_name L) is_chain.chain is_chain.whole merge (changed_names (is_reading mode) merge (leaf ∷ others)) written may t is_changed.attached is_changed.still

          spared_then : (k : ℕ) → k ≤ moment t → AreSpared (changed_names (is_reading mode) merge (leaf ∷ others)) f (given_back (at_moment k t) rest)
          spared_then k within = spared_at retired leaf others f idle_f once is_chain.opened (leaf_name L) is_chain.chain is_chain.whole merge (changed_names (is_reading mode) merge (leaf ∷ others)) written may t is_changed.attached is_changed.still k

          unchanged_back : t ≡ trace_of f → (name : List ℕ) → contents (given_back t rest) name ≡ contents f name
          unchanged_back same name =
              ap (λ x. contents (given_back x rest) name) same
              ∙ anew_contents names f (given_back (trace_of f) rest) (all_back names f idle_f (last_once retired names once) (opened_there f (leaf ∷ others) is_chain.opened)) name

      -- the store that came back last
      pub last_returned : (P : Returned → Type 0) → ((trace : Trace) (rest : List Held) → P (come_back disk trace rest)) → LastReturned P old now
      last_returned P p past is =
          let b = kept_told (come_back disk t rest) old.past now.past kept past is in
          (b.0, b.1, come_back disk t rest, [], b.2, p t rest)

      -- and the ends of files of which lines were told
      pub full_ends : (may_be : ℕ → Bool) (among : List (List ℕ)) → ((n : ℕ) → may_be n ≡ true → is_among (slice_index_or (names_of (leaf ∷ others)) n []) among ≡ true) → (lines : List Told) → AllByRecursion (IsEndTold (IsSoLong may_be t)) lines
          → AllByRecursion (IsEndTold (λ next. WhereTold now.folder (HasLong among next))) lines
      full_ends may_be among can lines full =
          ends_later (IsSoLong may_be t) (λ next. WhereTold now.folder (HasLong among next))
          (λ next l. in_now (HasLong among next)
          (long_now retired leaf others f idle_f once is_chain.opened (leaf_name L) is_chain.chain is_chain.whole merge (changed_names (is_reading mode) merge (leaf ∷ others)) written may t is_changed.attached is_changed.still may_be among can next l))
          lines full

      pub rests : (h : History) → ((n : ℕ) → written n ≡ true → is_synced (file_of t n) ≡ true) → EachOpens (way_to leaf (leaf ∷ others) merge) (λ s. false) (replay sector_size (opening_disk (trace_of f) (leaf ∷ others)) h) t → Rests L h f old now
      rests h synced opens = record {
        idle = λ g is x also. subst AllIdle (same_Some _ x (sym now_is ∙ also)) (idle_now retired leaf others f idle_f once is_chain.opened (leaf_name L) is_chain.chain is_chain.whole merge (changed_names (is_reading mode) merge (leaf ∷ others)) written may t is_changed.attached is_changed.still synced);
        opens = λ d is. in_now (λ g. OpensTo (files_of g) (leaf_name L) (replay sector_size d h)) (opens_now retired leaf others f idle_f once is_chain.opened (leaf_name L) is_chain.chain is_chain.whole merge (changed_names (is_reading mode) merge (leaf ∷ others)) written may t is_changed.attached is_changed.still h synced opens d is);
      }

      long : length t.attached ≡ length (leaf ∷ others)
      unfolding names_in
      long = sym (length-map t.attached (λ (x : NamedBytes). x.name)) ∙ ap length (names_told f t is_changed.attached) ∙ length-map (leaf ∷ others) (λ (x : LinkedFile). x.name)

      -- files that name no log in the store name none in the folder
      pub unlogged : (among : List (List ℕ)) → AllByRecursion (IsUnlogged (leaf ∷ others) t) among → WhereTold now.folder (NoneNamesLog among)
      unlogged among all = in_now (NoneNamesLog among) (each among all)
        where
          each : (among : List (List ℕ)) → AllByRecursion (IsUnlogged (leaf ∷ others) t) among → NoneNamesLog among (given_back t rest)
          each [] all = tt
          each (name ∷ among) all = (one, each among all.1)
            where
              one : (bytes : List ℕ) → contents (given_back t rest) name ≡ Some bytes → NamesNoLog bytes
              one bytes has =
                  let there = has_now retired leaf others f idle_f once is_chain.opened (leaf_name L) is_chain.chain is_chain.whole merge (changed_names (is_reading mode) merge (leaf ∷ others)) written may t is_changed.attached is_changed.still all.0.number (omega (arith, long, all.0.there)) in
                  let held : contents (given_back t rest) name ≡ Some (seen (file_of t all.0.number)) = subst (λ n. contents (given_back t rest) n ≡ Some (seen (file_of t all.0.number))) all.0.named there in
                  subst NamesNoLog (same_Some (seen (file_of t all.0.number)) bytes (sym held ∙ has)) all.0.none

      pub leads : (h : History) (files : List (List ℕ)) → ((n : ℕ) → written n ≡ true → is_synced (file_of t n) ≡ true) → EachOpens (way_to leaf (leaf ∷ others) merge) (λ s. false) (replay sector_size (opening_disk (trace_of f) (leaf ∷ others)) h) t → EachLinks leaf.name files t
          → WhereTold now.folder (λ g. LeadsTo (files_of g) (leaf_name L) files)
      leads h files synced opens links =
          in_now (λ g. LeadsTo (files_of g) (leaf_name L) files)
          (leads_now retired leaf others f idle_f once is_chain.opened (leaf_name L) is_chain.chain is_chain.whole merge (changed_names (is_reading mode) merge (leaf ∷ others)) written may t is_changed.attached is_changed.still h files synced opens links)

      pub first_leads : (h : History) (files : List (List ℕ)) → ((n : ℕ) → written n ≡ true → is_synced (file_of t n) ≡ true) → EachOpens (way_to leaf (leaf ∷ others) merge) (λ s. false) (replay sector_size (opening_disk (trace_of f) (leaf ∷ others)) h) t → EachLinks leaf.name files t
          → WhereTold now.folder (λ g. LeadsTo (files_of g) leaf.name files)
      first_leads h files synced opens links =
          in_now (λ g. LeadsTo (files_of g) leaf.name files)
          (first_leads_now retired leaf others f idle_f once is_chain.opened (leaf_name L) is_chain.chain is_chain.whole merge (changed_names (is_reading mode) merge (leaf ∷ others)) written may t is_changed.attached is_changed.still h files synced opens links)

      -- ---- where nothing was done to the files

      module _ (same : t ≡ trace_of f) where
        is_anew : AreAnew names f (given_back t rest)
        is_anew = subst (λ x. AreAnew names f (given_back x (without names f))) (sym same) (all_back names f idle_f (last_once retired names once) (opened_there f (leaf ∷ others) is_chain.opened))

        at_once : (k : ℕ) → k ≤ moment t → at_moment k t ≡ t
        unfolding moment
        at_once k within =
            let none : moment t ≡ 0 = ap moment same in
            let first : k ≡ moment t = omega (arith, within, none) in
            ap (λ n. at_moment n t) first ∙ at_moment-now t

        idle_back : AllIdle (given_back t rest)
        idle_back = anew_idle names f (given_back t rest) is_anew idle_f

        whole_back : LeadsWhole (files_of (given_back t rest)) (leaf_name L) names
        whole_back = whole_as f (given_back t rest) (leaf_name L) names (anew_contents names f (given_back t rest) is_anew) is_chain.whole

        opens_back : (d : Disk) → OpensTo (files_of f) (leaf_name L) d → OpensTo (files_of (given_back t rest)) (leaf_name L) d
        opens_back d opens = rests_as f (given_back t rest) (leaf_name L) (anew_contents names f (given_back t rest) is_anew) d opens

        pub same_contents : WhereTold now.folder (λ g. (name : List ℕ) → contents g name ≡ contents f name)
        same_contents = in_now (λ g. (name : List ℕ) → contents g name ≡ contents f name) (anew_contents names f (given_back t rest) is_anew)

        pub unchanged_stands : Stands mode merge L [] None f old now
        unchanged_stands = record {
          moments = λ d opens. throughout (OpensToFirst (way_by (leaf_name L) L merge) d [] (open_by None))
              (λ k within. subst (λ x. OpensToFirst (way_by (leaf_name L) L merge) d [] (open_by None) (given_back x rest)) (sym (at_once k within)) (first_rests (given_back t rest) (way_by (leaf_name L) L merge) (open_by None) d idle_back whole_back (opens_back d opens)))
              (first_rests (given_back t rest) (way_by (leaf_name L) L merge) (open_by None) d idle_back whole_back (opens_back d opens));
          last = λ d opens. in_now (EachImageOpens (way_by (leaf_name L) L merge) (open_last [] None) d) (last_rests (given_back t rest) (way_by (leaf_name L) L merge) d idle_back whole_back (opens_back d opens));
          spared = throughout (AreSpared (changed_names (is_reading mode) merge (leaf ∷ others)) f)
              (λ k within. subst (λ x. AreSpared (changed_names (is_reading mode) merge (leaf ∷ others)) f (given_back x rest)) (sym (at_once k within)) (anew_spared names (changed_names (is_reading mode) merge (leaf ∷ others)) f (given_back t rest) is_anew))
              (anew_spared names (changed_names (is_reading mode) merge (leaf ∷ others)) f (given_back t rest) is_anew);
          unchanged = λ reading. same_contents;
          home = in_now AllHome (home_of_idle (given_back t rest) idle_back);
        }

        pub unchanged_rests : Rests L [] f old now
        unchanged_rests = record {
          idle = λ g is x also. subst AllIdle (same_Some _ x (sym now_is ∙ also)) idle_back;
          opens = λ d opens. in_now (λ g. OpensTo (files_of g) (leaf_name L) d) (opens_back d opens);
        }
