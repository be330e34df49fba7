-- What `make` makes, from what making a file answers.
use Rattle.std.proofs.Common.{◌≡◌, ◌≢◌, ℕ, zero, suc, true, List, [], ◌∷◌, ◌++◌, Option, Some, None, Result, Ok, Err, inl, inr, refl, sym, ap, subst, ◌∙◌, arith}
use Rattle.std.specs.Prelude.{◌||◌, All, MatchResult, codes}
use Rattle.std.specs.Str.{bytes_eq}
use Rattle.std.proofs.lemmas.Option.{same_Some}
use Rattle.command_line.specs.Requests.{File}
use Rattle.command_line.specs.Requests as new
use Rattle.file_open.specs.Causes.{IfCause, Meaning, refuses, host_failed, store_failed, no_memory, cause_in}
use Rattle.make_file.specs.Identifiers.{Draws}
use Rattle.make_file.specs.Makes.{Answers, FailsIn, IsAnswer, IsFree, LeavesOthers, Makes, Making, OnlyAdds, Outside, child_making, dynamic_making, fixed_making, held_as}
use Rattle.make_file.specs.declared.drawing.FileIds.{FileIds}
use Rattle.make_file.specs.declared.refusal.MakeRefusal.{MakeRefusal}
use Rattle.make_file.specs.declared.refusal.MakeRefusal.TheVariants as make
use Rattle.store_model.specs.Cause.{Rose}
use Rattle.store_model.specs.Disk.{WhereTold}
use Rattle.store_model.specs.File.{is_synced}
use Rattle.store_model.specs.File as stored
use Rattle.store_model.specs.Folder.{Held, Hosted, has_name}
use Rattle.store_model.specs.Moments.{IsHealthy, LastReturnedCounts}
use Rattle.store_model.proofs.Throughout.{last_join, returned_join, returned_none, throughout_join, throughout_still, throughout_weaken}
use Rattle.link_rules.specs.Causes as link
use Rattle.link_rules.specs.Chains.{Links}
use Rattle.link_rules.specs.Chains as chains
use Rattle.link_rules.specs.Effects.{IsServed}
use Rattle.link_rules.specs.Folders.{AllIdle, ReturnsHealthy, contents}
use Rattle.link_rules.specs.Lines.{BeginsWith}
use Rattle.link_rules.specs.Touches.{AreSafe, IsOnWay, IsSafeFile, TouchesSafely, touched, untouched}
use Rattle.link_rules.specs.declared.linked.LinkedFile.{LinkedFile}
use Rattle.link_rules.proofs.Safe.{safe_same}
use Rattle.command_base.specs.Causes.{meaning_of_chain, meaning_of_make, of_chain}
use Rattle.folder_commands.specs.Parents.{OpensParent, leads, unlinked}
use Rattle.command_base.specs.Commands.{LeavesFollowedBy, MakeEnded, Reports}
use Rattle.command_base.specs.Folders.{OnlyFollows}
use Rattle.command_base.specs.Making.{AddsOnly, IsMaking, IsParent, IsSafeMaking, LooksAt, MakesSafely, RefusesMaking, TouchesParents, made_line, id_unfit, name_taken, parent_not_opened}
use Rattle.printing.specs.Sent.{cut, Sent, whole}
use Rattle.command_base.specs.Refusals.{Refusal, IdUnfit, IsBase, LocatorTooLarge, MetadataFull, NameTaken, NotInChain, OfCall, OfChain}
use Rattle.folder_commands.specs.declared.making.ParentChain.{ParentChain}
use Rattle.command_base.specs.declared.refusal.ChainRefusal.{ChainRefusal}
use Rattle.command_base.specs.declared.refusal.ChainRefusal.TheVariants as chain
use Rattle.printing.specs.declared.status.Status.{Status}
use Rattle.printing.specs.declared.status.Status.TheVariants.{Done, Fault, NoMemory}
use Rattle.command_base.proofs.Left.{counted, follows_none, idle_left, stopped}
use Rattle.command_base.proofs.Said.{CountsIn, no_memory_ended, refused_ended, shown_ended}

-- ---- folders with the same names

later_name : (may : List ℕ → Type 0) (held later : Held) → IsSafeFile may held later → later.name ≡ held.name
later_name may held _ untouched = refl
later_name may held _ (touched before after m had images) = refl

names_safe : (may : List ℕ → Type 0) (name : List ℕ) (folder now : List Held) → AreSafe may folder now → has_name name now ≡ has_name name folder
names_safe may name [] [] h = refl
names_safe may name [] (later ∷ now) h = absurd h
names_safe may name (held ∷ folder) [] h = absurd h
names_safe may name (held ∷ folder) (later ∷ now) h = ap (λ n. bytes_eq n name || has_name name now) (later_name may held later h.0) ∙ ap (λ b. bytes_eq held.name name || b) (names_safe may name folder now h.1)

-- where the folder is told, so is what was looked at, and it has the same names
record Told (before : List Held) (mid : Option (List Held)) : Type 0 where
  folder : List Held
  is : mid ≡ Some folder
  names : (name : List ℕ) → has_name name folder ≡ has_name name before

told_same : (before : Option (List Held)) (mid : Option (List Held)) → mid ≡ before → (f : List Held) → before ≡ Some f → Told f mid
told_same before mid same f told = record { folder = f; is = same ∙ told; names = λ name. refl }

told_of : (file : File) (before mid : Option (List Held)) → LooksAt file before mid → (f : List Held) → before ≡ Some f → Told f mid
told_of (new.fixed sectors block) before mid looked f told = told_same before mid looked f told
told_of (new.dynamic sectors block) before mid looked f told = told_same before mid looked f told
told_of (new.child parent block) before mid looked f told =
    let o = looked f told in
    record { folder = o.0; is = o.1; names = λ name. names_safe (IsOnWay (contents f) parent) name f o.0 (o.2).safe }

-- of a child its parent's chain was looked at alone
looked_touched : (file : File) (before mid : Option (List Held)) (looked : LooksAt file before mid) (f : List Held) (told : before ≡ Some f) (m : List Held) → mid ≡ Some m → TouchesParents file f m
looked_touched (new.fixed sectors block) before mid looked f told m is = same_Some m f (sym is ∙ looked ∙ told)
looked_touched (new.dynamic sectors block) before mid looked f told m is = same_Some m f (sym is ∙ looked ∙ told)
looked_touched (new.child parent block) before mid looked f told m is =
    let o = looked f told in
    subst (AreSafe (IsOnWay (contents f) parent) f) (same_Some o.0 m (sym o.1 ∙ is)) (o.2).safe

idle_more : (folder : List Held) (name : List ℕ) (file : stored.File) → AllIdle folder → is_synced file ≡ true → AllIdle (folder ++ held_as name file ∷ [])
idle_more [] name file idle synced zero d h = (file, refl, synced)
idle_more [] name file idle synced (suc k) d h = absurd (omega (arith, h))
idle_more (held ∷ folder) name file idle synced zero d h = idle zero d (omega arith)
idle_more (held ∷ folder) name file idle synced (suc k) d h = idle_more folder name file (λ k d h. idle (suc k) d (omega (arith, h))) synced k d (omega (arith, h))

-- ---- moments

-- a parent's name that is followed
parent_safe : (name parent : List ℕ) (block : ℕ) (f now : List Held) → AreSafe (IsOnWay (contents f) parent) f now → IsSafeMaking name (new.child parent block) f now
parent_safe name parent block f now safe = record { mid = now; looked = safe; others = inl refl }

pub parent_safely : (name parent : List ℕ) (block : ℕ) (before now : Hosted) → TouchesSafely (λ f. IsOnWay (contents f) parent) before now → MakesSafely name (new.child parent block) before now
parent_safely name parent block before now safely f told =
    throughout_weaken (AreSafe (IsOnWay (contents f) parent) f) (IsSafeMaking name (new.child parent block) f) before now (λ folder safe. parent_safe name parent block f folder safe) (safely f told)

-- nothing was done
still_made : (name : List ℕ) (file : File) (f : List Held) → IsSafeMaking name file f f
still_made name (new.fixed sectors block) f = record { mid = f; looked = refl; others = inl refl }
still_made name (new.dynamic sectors block) f = record { mid = f; looked = refl; others = inl refl }
still_made name (new.child parent block) f = parent_safe name parent block f f (safe_same (IsOnWay (contents f) parent) f)

pub still_making : (name : List ℕ) (file : File) (host : Hosted) → MakesSafely name file host host
still_making name file host f told = throughout_still (IsSafeMaking name file f) host host refl (λ g is. subst (IsSafeMaking name file f) (same_Some f g (sym told ∙ is)) (still_made name file f))

-- ---- what is made after nothing but looking

-- from the one to the other nothing was made or drawn, and no fault met
pub record OnlyLooked (name : List ℕ) (file : File) (before mid : Outside) : Type 0 where
  pub looked : LooksAt file before.host.folder mid.host.folder
  pub faults : mid.host.faults ≡ before.host.faults
  pub drawn : mid.drawn ≡ before.drawn
  pub idle : WhereTold before.host.folder (λ folder. WhereTold mid.host.folder AllIdle)
  pub safely : MakesSafely name file before.host mid.host
  pub healthy : ReturnsHealthy before.host mid.host

pub looked_at_once : (name : List ℕ) (file : File) (before : Outside) → LooksAt file before.host.folder before.host.folder → WhereTold before.host.folder AllIdle → OnlyLooked name file before before
looked_at_once name file before looked idle = record { looked = looked; faults = refl; drawn = refl; idle = λ f told. idle; safely = still_making name file before.host; healthy = λ f told. returned_none IsHealthy before.host before.host refl }

module _ (name : List ℕ) (file : File) (before mid now : Outside) (looked : OnlyLooked name file before mid) (ids : FileIds) (making : Making) (is : IsMaking name file before ids making) (named : making.name ≡ name)
    (sunk after : Option (List ℕ)) (old new_ : ℕ) (status : Status) where
  free_before : IsFree making.name mid.host → IsFree making.name before.host
  free_before free f told =
      let there = told_of file before.host.folder mid.host.folder looked.looked f told in
      sym (there.names making.name) ∙ free there.folder there.is

  taken_before : WhereTold mid.host.folder (λ folder. has_name making.name folder ≡ true) → WhereTold before.host.folder (λ folder. has_name making.name folder ≡ true)
  taken_before taken f told =
      let there = told_of file before.host.folder mid.host.folder looked.looked f told in
      sym (there.names making.name) ∙ taken there.folder there.is

  drawn_before : Draws making.drawn mid.drawn now.drawn → Draws making.drawn before.drawn now.drawn
  drawn_before draws = subst (λ d. Draws making.drawn d now.drawn) looked.drawn draws

  looked_before : now.host ≡ mid.host → LooksAt file before.host.folder now.host.folder
  looked_before same = subst (LooksAt file before.host.folder) (sym (ap (λ (h : Hosted). h.folder) same)) looked.looked

  added : WhereTold mid.host.folder (λ f. LeavesOthers making.name f now.host.folder) → AddsOnly name file before.host.folder now.host.folder
  added others = record { mid = mid.host.folder; looked = looked.looked; others = subst (λ n. WhereTold mid.host.folder (λ f. LeavesOthers n f now.host.folder)) named others }

  same_safely : now.host ≡ mid.host → MakesSafely name file before.host now.host
  same_safely same = subst (MakesSafely name file before.host) (sym same) looked.safely

  more_safely : OnlyAdds making.name mid.host now.host → MakesSafely name file before.host now.host
  more_safely adds f told =
      let m = told_of file before.host.folder mid.host.folder looked.looked f told in
      let touches = looked_touched file before.host.folder mid.host.folder looked.looked f told m.folder m.is in
      throughout_join (IsSafeMaking name file f) before.host mid.host now.host (looked.safely f told)
      (throughout_weaken (λ after. LeavesOthers making.name m.folder (Some after)) (IsSafeMaking name file f) mid.host now.host
      (λ after others. record { mid = m.folder; looked = touches; others = subst (λ n. LeavesOthers n m.folder (Some after)) named others })
      (adds m.folder m.is))

  idle_before : now.host ≡ mid.host → WhereTold before.host.folder (λ folder. WhereTold now.host.folder AllIdle)
  idle_before same f told a after = looked.idle f told a (sym (ap (λ (h : Hosted). h.folder) same) ∙ after)

  faults_before : now.host ≡ mid.host → now.host.faults ≡ before.host.faults
  faults_before same = ap (λ (h : Hosted). h.faults) same ∙ looked.faults

  -- a refusal that changed nothing
  unchanged : (meaning : Meaning Refusal) → now.host ≡ mid.host → ((r : Refusal) → cause_in meaning ≡ Some r → RefusesMaking name file before now r) → CountsIn before.host now.host meaning → Reports meaning sunk after old new_ status
      → MakeEnded name file before now sunk after old new_ status
  unchanged meaning same so counts reports = record {
    ended = refused_ended _ _ before.host now.host sunk after old new_ status meaning so counts reports;
    kept = λ done fault. looked_before same;
    others = added (λ f told. inl (ap (λ (h : Hosted). h.folder) same ∙ told));
    moments = same_safely same;
    idle = λ fault. idle_before same;
  }

  made : (len : ℕ) → Makes making len mid now → Sent sunk after old new_ Done (made_line name len) status → MakeEnded name file before now sunk after old new_ status
  made len makes sent = record {
    ended =
        shown_ended _ _ before.host now.host sunk after old new_ status (made_line name len)
        (record {
          ids = ids;
          making = making;
          is = is;
          made = record { free = free_before makes.may.free; drawn = drawn_before makes.may.drawn; fit = makes.may.fit; mid = mid.host.folder; looked = looked.looked; added = makes.host.folder };
          text_is = ap (made_line name) makes.host.len_is;
        })
        (makes.host.faults ∙ looked.faults) sent;
    kept = λ done fault. absurd (one_of sent done fault);
    others = added (λ f told. let has = makes.host.folder f told in inr (has.file, has.folder_is));
    moments = more_safely makes.host.moments;
    idle = λ fault. idle;
  } where
    idle : WhereTold before.host.folder (λ f. WhereTold now.host.folder AllIdle)
    idle f told a is_ =
        let there = told_of file before.host.folder mid.host.folder looked.looked f told in
        let has = makes.host.folder there.folder there.is in
        subst AllIdle (same_Some _ _ (sym has.folder_is ∙ is_)) (idle_more there.folder making.name has.file (looked.idle f told there.folder there.is) has.synced)

    one_of : Sent sunk after old new_ Done (made_line name len) status → status ≢ Done → status ≢ Fault → ⊥
    one_of (whole is_ sent same) done fault = done is_
    one_of (cut is_ n sent rose) done fault = fault is_

  -- a fault while it was made
  failed : (meaning : Meaning Refusal) (text : List ℕ) → FailsIn making.name mid.host now.host → ((r : Refusal) → cause_in meaning ≡ Some r → RefusesMaking name file before now r) → CountsIn before.host now.host meaning → Reports meaning sunk after old new_ status → Sent sunk after old new_ Fault text status
      → MakeEnded name file before now sunk after old new_ status
  failed meaning text fails so counts reports sent = record {
    ended = refused_ended _ _ before.host now.host sunk after old new_ status meaning so counts reports;
    kept = λ done fault. absurd (fault (is_fault sent));
    others = added fails.others;
    moments = more_safely fails.moments;
    idle = λ fault. absurd (fault (is_fault sent));
  } where
    is_fault : Sent sunk after old new_ Fault text status → status ≡ Fault
    is_fault (whole is_ sent same) = is_
    is_fault (cut is_ n sent rose) = is_

  -- no store came back since, or one that counts so many
  healthy_since : now.host.past ≡ mid.host.past → ReturnsHealthy before.host now.host
  healthy_since same f told = returned_join IsHealthy before.host mid.host now.host (looked.healthy f told) (returned_none IsHealthy mid.host now.host same)

  last_since : (count : ℕ) → WhereTold mid.host.folder (λ f. LastReturnedCounts count mid.host now.host) → WhereTold before.host.folder (λ f. LastReturnedCounts count before.host now.host)
  last_since count last f told =
      let m = told_of file before.host.folder mid.host.folder looked.looked f told in
      last_join IsHealthy count before.host mid.host now.host (looked.healthy f told) (last m.folder m.is)

  pub made_ended : (result : Result ℕ MakeRefusal) → Answers making mid now result
      → MatchResult result (λ len. Sent sunk after old new_ Done (made_line name len) status) (λ refusal. Reports (meaning_of_make name refusal) sunk after old new_ status)
      → MakeEnded name file before now sunk after old new_ status
  made_ended (Ok len) answer sent = made len answer sent
  made_ended (Err make.NameTaken) answer reports =
      unchanged (refuses (NameTaken name)) answer.stays.host
      (λ r is_. subst (λ r. RefusesMaking name file before now r) (same_Some _ _ is_) (name_taken ids making is (record { there = taken_before answer.there; undrawn = answer.stays.drawn ∙ looked.drawn })))
      (faults_before answer.stays.host) reports
  made_ended (Err (make.IdUnfit id)) answer reports =
      unchanged (refuses (IdUnfit id)) answer.host
      (λ r is_. subst (λ r. RefusesMaking name file before now r) (same_Some _ _ is_) (id_unfit id ids making is (record { free = free_before answer.free; drawn = drawn_before answer.drawn; unfit = answer.unfit })))
      (faults_before answer.host) reports
  made_ended (Err (make.Host fault)) (inl (host, drawn)) reports =
      failed (host_failed fault) _ (record { others = λ m told. inl (ap (λ (h : Hosted). h.folder) host.stays ∙ told); moments = λ m told. throughout_still _ mid.host now.host (ap (λ (h : Hosted). h.past) host.stays) (λ g is_. inl (sym is_ ∙ ap (λ (h : Hosted). h.folder) host.stays ∙ told)); rose = host.rose }) (λ r is_. let none : None ≡ Some r = is_ in cc)
      (subst (λ n. Rose n now.host.faults) looked.faults host.rose, host.count, healthy_since (ap (λ (h : Hosted). h.past) host.stays)) reports reports
  made_ended (Err (make.Host fault)) (inr (fails, count, same)) reports =
      failed (host_failed fault) _ fails.host (λ r is_. let none : None ≡ Some r = is_ in cc) (subst (λ n. Rose n now.host.faults) looked.faults fails.host.rose, count, healthy_since same) reports reports
  made_ended (Err (make.Store fault)) (fails, first, count, last) reports =
      failed (store_failed fault) _ fails.host (λ r is_. let none : None ≡ Some r = is_ in cc) (subst (λ n. Rose n now.host.faults) looked.faults fails.host.rose, count, last_since fault.count last) reports reports
  made_ended (Err make.NoRoom) answer reports =
      unchanged no_memory answer.stays.host (λ r is_. let none : None ≡ Some r = is_ in cc) (faults_before answer.stays.host) reports

module _ (name : List ℕ) (file : File) (before : Outside) (idle : WhereTold before.host.folder AllIdle) (now : Outside) (sunk after : Option (List ℕ)) (old new_ : ℕ) (status : Status) (result : Result ℕ MakeRefusal)
    (told : MatchResult result (λ len. Sent sunk after old new_ Done (made_line name len) status) (λ refusal. Reports (meaning_of_make name refusal) sunk after old new_ status)) where
  pub fixed_ended : (own : List ℕ) (sectors block : ℕ) → own ≡ name → file ≡ new.fixed sectors block → ((ids : FileIds) × IsAnswer (fixed_making own ids sectors block) before now result) → MakeEnded name file before now sunk after old new_ status
  fixed_ended own sectors block own_is file_is (ids, answer) =
      let answers : Answers (fixed_making name ids sectors block) before now result = subst (λ n. Answers (fixed_making n ids sectors block) before now result) own_is answer.answers in
      subst (λ f. MakeEnded name f before now sunk after old new_ status) (sym file_is)
      (made_ended name (new.fixed sectors block) before before now (looked_at_once name (new.fixed sectors block) before refl idle) ids (fixed_making name ids sectors block) refl refl sunk after old new_ status result answers told)

  pub dynamic_ended : (own : List ℕ) (sectors block : ℕ) → own ≡ name → file ≡ new.dynamic sectors block → ((ids : FileIds) × IsAnswer (dynamic_making own ids sectors block) before now result) → MakeEnded name file before now sunk after old new_ status
  dynamic_ended own sectors block own_is file_is (ids, answer) =
      let answers : Answers (dynamic_making name ids sectors block) before now result = subst (λ n. Answers (dynamic_making n ids sectors block) before now result) own_is answer.answers in
      subst (λ f. MakeEnded name f before now sunk after old new_ status) (sym file_is)
      (made_ended name (new.dynamic sectors block) before before now (looked_at_once name (new.dynamic sectors block) before refl idle) ids (dynamic_making name ids sectors block) refl refl sunk after old new_ status result answers told)

pub child_ended : (name own named parent : List ℕ) (block : ℕ) (above : ParentChain) (leaf : LinkedFile) (shown : List (List ℕ)) (before mid now : Outside) (sunk after : Option (List ℕ)) (old new_ : ℕ) (status : Status) (result : Result ℕ MakeRefusal)
    → own ≡ name → named ≡ parent → OnlyLooked name (new.child parent block) before mid → BeginsWith leaf above.linked.files → WhereTold before.host.folder (λ folder. OpensParent folder named (Ok above))
    → shown ≡ above.known.items → ((ids : FileIds) × IsAnswer (child_making own ids leaf.name leaf.parts shown block) mid now result)
    → MatchResult result (λ len. Sent sunk after old new_ Done (made_line name len) status) (λ refusal. Reports (meaning_of_make name refusal) sunk after old new_ status)
    → MakeEnded name (new.child parent block) before now sunk after old new_ status
child_ended name own named parent block above leaf shown before mid now sunk after old new_ status result own_is named_is looked begins opens shown_is (ids, answer) told =
    let answers : Answers (child_making name ids leaf.name leaf.parts above.known.items block) mid now result =
    subst (λ k. Answers (child_making name ids leaf.name leaf.parts k block) mid now result) shown_is (subst (λ n. Answers (child_making n ids leaf.name leaf.parts shown block) mid now result) own_is answer.answers) in
    made_ended name (new.child parent block) before mid now looked ids (child_making name ids leaf.name leaf.parts above.known.items block)
    (leaf, above.known.items, (λ f is. is_parent f (subst (λ n. OpensParent f n (Ok above)) named_is (opens f is))), refl) refl sunk after old new_ status result answers told
  where
    is_parent : (f : List Held) → OpensParent f parent (Ok above) → IsParent f parent leaf above.known.items
    is_parent f (leads _ links shows) = record { linked = above.linked; links = links; begins = begins; shows = shows }

pub looks_still : (file : File) (host : Hosted) → LooksAt file host.folder host.folder
looks_still (new.fixed sectors block) host = refl
looks_still (new.dynamic sectors block) host = refl
looks_still (new.child parent block) host = follows_none parent host

pub adds_none : (name : List ℕ) (file : File) (host : Hosted) → AddsOnly name file host.folder host.folder
adds_none name file host = record { mid = host.folder; looked = looks_still file host; others = λ f told. inl told }

-- memory ran out before anything
pub no_memory_made : (name : List ℕ) (file : File) (before : Outside) (sunk after : Option (List ℕ)) (old new_ : ℕ) (status : Status) → WhereTold before.host.folder AllIdle → Sent sunk after old new_ NoMemory (codes "no memory\n") status
    → MakeEnded name file before before sunk after old new_ status
no_memory_made name file before sunk after old new_ status idle sent = record {
  ended = no_memory_ended _ _ before.host before.host sunk after old new_ status refl sent;
  kept = λ done fault. looks_still file before.host;
  others = adds_none name file before.host;
  moments = still_making name file before.host;
  idle = λ fault f told. idle;
}

-- what it says that files of a chain aren't read
abbrev pub IsOfChain : Meaning Refusal → Type 0
IsOfChain (refuses (OfChain refusal)) = Unit {0}
IsOfChain (refuses (OfCall refusal)) = ⊥
IsOfChain (refuses (NameTaken name)) = ⊥
IsOfChain (refuses (IdUnfit id)) = ⊥
IsOfChain (refuses (NotInChain name)) = ⊥
IsOfChain (refuses (IsBase name)) = ⊥
IsOfChain (refuses (LocatorTooLarge len)) = ⊥
IsOfChain (refuses (MetadataFull file)) = ⊥
IsOfChain (host_failed fault) = Unit {0}
IsOfChain (store_failed fault) = Unit {0}
IsOfChain no_memory = Unit {0}

pub is_of_chain : (refusal : ChainRefusal) → IsOfChain (meaning_of_chain refusal)
is_of_chain (chain.Unlinked refusal) = by_meaning (link.meaning_of refusal)
  where
    by_meaning : (meaning : Meaning chains.Refusal) → IsOfChain (of_chain meaning)
    by_meaning (refuses r) = tt
    by_meaning (host_failed fault) = tt
    by_meaning (store_failed fault) = tt
    by_meaning no_memory = tt
is_of_chain (chain.Host fault) = tt
is_of_chain (chain.Store fault) = tt
is_of_chain chain.NoRoom = tt

-- the parent's name leads to no chain, or its files aren't read
pub parent_refused : (name named parent : List ℕ) (block : ℕ) (before now : Outside) (sunk after : Option (List ℕ)) (old new_ : ℕ) (status : Status) (meaning : Meaning Refusal)
    → named ≡ parent → LeavesFollowedBy named before.host now.host meaning → TouchesSafely (λ f. IsOnWay (contents f) named) before.host now.host → now.drawn ≡ before.drawn
    → WhereTold before.host.folder (λ folder. IfCause (OpensParent folder named) (cause_in meaning)) → IsOfChain meaning → Reports meaning sunk after old new_ status
    → MakeEnded name (new.child parent block) before now sunk after old new_ status
parent_refused name named parent block before now sunk after old new_ status meaning same left safely drawn opens of_it reports = record {
  ended = refused_ended _ _ before.host now.host sunk after old new_ status meaning (so meaning of_it opens) (counted named before.host now.host meaning left) reports;
  kept = λ done fault. looked;
  others = record { mid = now.host.folder; looked = looked; others = λ f told. inl told };
  moments = parent_safely name parent block before.host now.host (subst (λ n. TouchesSafely (λ f. IsOnWay (contents f) n) before.host now.host) same safely);
  idle = λ fault. idle_left named before.host now.host meaning sunk after old new_ status left reports fault;
} where
  looked : OnlyFollows parent before.host.folder now.host.folder
  looked = subst (λ n. OnlyFollows n before.host.folder now.host.folder) same (stopped named before.host now.host meaning left safely)

  by_links : (f : List Held) (refusal : chains.Refusal) → OpensParent f named (Err (OfChain refusal)) → Links (contents f) named (Err refusal)
  by_links f _ (unlinked refusal links) = links

  so : (meaning : Meaning Refusal) → IsOfChain meaning → WhereTold before.host.folder (λ folder. IfCause (OpensParent folder named) (cause_in meaning)) → (r : Refusal) → cause_in meaning ≡ Some r → RefusesMaking name (new.child parent block) before now r
  so (refuses (OfChain refusal)) of_it opens r is =
      subst (RefusesMaking name (new.child parent block) before now) (same_Some _ _ is)
      (parent_not_opened parent block refusal refl (subst (λ n. WhereTold before.host.folder (λ f. Links (contents f) n (Err refusal))) same (λ f told. by_links f refusal (opens f told))) drawn)
  so (refuses (OfCall refusal)) of_it opens r is = absurd of_it
  so (refuses (NameTaken name_)) of_it opens r is = absurd of_it
  so (refuses (IdUnfit id)) of_it opens r is = absurd of_it
  so (refuses (NotInChain name_)) of_it opens r is = absurd of_it
  so (refuses (IsBase name_)) of_it opens r is = absurd of_it
  so (refuses (LocatorTooLarge len)) of_it opens r is = absurd of_it
  so (refuses (MetadataFull file)) of_it opens r is = absurd of_it
  so (host_failed fault) of_it opens r is = let none : None ≡ Some r = is in cc
  so (store_failed fault) of_it opens r is = let none : None ≡ Some r = is in cc
  so no_memory of_it opens r is = let none : None ≡ Some r = is in cc

pub leaf_served : (leaf : LinkedFile) (files : List LinkedFile) → BeginsWith leaf files → All IsServed files → IsServed leaf
leaf_served leaf files begins served = subst (All IsServed) begins.is served zero leaf (omega arith)
