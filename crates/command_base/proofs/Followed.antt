-- A leaf's name that was followed, and what its files then show.
use Rattle.std.proofs.Common.{◌≡◌, ◌||◌, ℕ, Bool, true, false, zero, ◌*◌, ◌^◌, ◌≤◌, List, [], ◌∷◌, ◌++◌, length, take, drop, Option, Some, None, Result, Ok, Err, refl, sym, ap, subst, ◌∙◌, arith}
use Rattle.std.specs.Prelude.{All, option_map}
use Rattle.std.specs.Result.{IsErrAnd}
use Rattle.std.specs.List.{AllByRecursion}
use Rattle.std.specs.Str.{bytes_eq}
use Rattle.std.proofs.lemmas.Bool.{or_left, or_right}
use Rattle.std.proofs.lemmas.List.{append-nil}
use Rattle.std.proofs.lemmas.Slice.Eq.{bytes_eq-Decides}
use Rattle.std.proofs.lemmas.Option.{same_Some}
use Rattle.store_model.specs.Disk.{WhereTold}
use Rattle.store_model.specs.Folder.{Held, Hosted}
use Rattle.store_model.proofs.Throughout.{throughout_join, throughout_weaken}
use Rattle.vx_base.specs.declared.parts.Geometry.{Geometry}
use Rattle.guest_model.specs.Calls.{Disk, bytes_of}
use Rattle.chain_model.specs.Files.{Files, IsIn, OpensTo, at_rest}
use Rattle.chain_model.specs.Members.{Member, NoneTwice, Ties, disk_of, layers_of}
use Rattle.chain_model.proofs.Layering.{length-flat}
use Rattle.chain_model.proofs.Linking.{one_member}
use Rattle.chain_model.proofs.NewFiles.{opened_parts}
use Rattle.file_open.specs.Causes.{IfCause, Meaning, refuses, host_failed, store_failed, no_memory, cause_in}
use Rattle.file_open.proofs.Again.{opens_again}
use Rattle.vhdx_format.specs.SettledFiles.{StandsFor}
use Rattle.link_rules.specs.Chains.{Links, OpensIn, ParentIs, ParentsAre, present, names_of, is_among}
use Rattle.link_rules.specs.Chains as chains
use Rattle.link_rules.specs.Effects.{HasReplayed, IsKept, IsServed, LeavesBy, Replays, linked_names, replayed, untouched}
use Rattle.link_rules.specs.Folders.{AllIdle, Contents, contents}
use Rattle.link_rules.specs.Laws.{AreMembers, at_rest_all}
use Rattle.link_rules.specs.Lines.{BeginsWith}
use Rattle.link_rules.specs.Touches.{AreSafe, IsOnWay, TouchesSafely}
use Rattle.link_rules.specs.Touches as way
use Rattle.link_rules.specs.declared.linked.Linked.{Linked}
use Rattle.link_rules.specs.declared.linked.LinkedFile.{LinkedFile}
use Rattle.link_rules.proofs.Alike.{members_alike, file_opened}
use Rattle.link_rules.proofs.Chained.{links_are_chains}
use Rattle.link_rules.proofs.Composing.{among_append, left_then, replayed_then, replays_keep}
use Rattle.link_rules.proofs.OneLinking.{one_linking}
use Rattle.link_rules.proofs.Ways.{found_way}
use Rattle.command_base.specs.Causes.{AnswersBy, of_chain}
use Rattle.command_base.specs.Folders.{StandsSo}
use Rattle.guest_model.specs.Ranges.{range_refusal}
use Rattle.guest_model.specs.declared.refusal.ChainRefusal.{ChainRefusal as CallRefusal}
use Rattle.command_base.specs.Commands.{AreAnew, AreOpened, HasFollowed, HasGeometry, HasRead, IsOpened, LeavesFollowed, LeavesFollowedBy, LeavesReadBy, OnlyAttaches}
use Rattle.command_base.specs.Dump.{Finds}
use Rattle.command_base.specs.Dump as dump
use Rattle.shown_ids.specs.Shown.{shown}
use Rattle.vhdx_format.proofs.FileLemmas.{stands_once}
use Rattle.command_base.specs.Making.{ShowIds, more, none}
use Rattle.command_base.specs.Refusals.{Refusal, OfCall, OfChain}
use Rattle.command_base.proofs.Lent.{anew_safe}
use Rattle.command_base.proofs.OneAnswer.{not_two}

-- ---- the files of a chain

-- each of them is on the way, and was opened
abbrev pub AreListed : Contents → List ℕ → List LinkedFile → Type 0
AreListed files leaf linked = AllByRecursion (λ f. IsOnWay files leaf f.name × OpensIn files f.name (Ok f.parts)) linked

pub same_files : (a b : List LinkedFile) → (let r : Result (List LinkedFile) chains.Refusal = Ok a in r) ≡ Ok b → a ≡ b
same_files a b e = cc

record NextListed (files : Contents) (leaf : List ℕ) (next : LinkedFile) : Type 0 where
  way : IsOnWay files leaf next.name
  opens : OpensIn files next.name (Ok next.parts)

next_listed : (files : Contents) (leaf : List ℕ) (retired : List (List ℕ)) (above : List LinkedFile) (child next : LinkedFile) → ParentIs files retired above child (Ok (Some next)) → IsOnWay files leaf child.name → OpensIn files child.name (Ok child.parts)
    → NextListed files leaf next
next_listed files leaf retired above child _ (chains.parent pairs name parts n opens matched geometry) on_way child_opens = record { way = way.parent child.name name child.parts pairs on_way child_opens n.names; opens = opens }

parents_listed : (files : Contents) (leaf : List ℕ) (retired : List (List ℕ)) (above : List LinkedFile) (child : LinkedFile) (result : Result (List LinkedFile) chains.Refusal) → ParentsAre files retired above child result
    → IsOnWay files leaf child.name → OpensIn files child.name (Ok child.parts) → (found : List LinkedFile) → result ≡ Ok found → AreListed files leaf found
parents_listed files leaf retired _ _ _ (chains.alone above child h) on_way opens found e = subst (AreListed files leaf) (same_files (child ∷ []) found e) ((on_way, opens), tt)
parents_listed files leaf retired _ _ _ (chains.refused above child refusal h) on_way opens found e = cc
parents_listed files leaf retired _ _ _ (chains.further above child next (Err refusal) h rest) on_way opens found e = cc
parents_listed files leaf retired _ _ _ (chains.further above child next (Ok others) h rest) on_way opens found e =
    let n = next_listed files leaf retired above child next h on_way opens in
    subst (AreListed files leaf) (same_files (child ∷ others) found e) ((on_way, opens), parents_listed files leaf retired (above ++ child ∷ []) next (Ok others) rest n.way n.opens others refl)

pub listed : (files : Contents) (leaf : List ℕ) (linked : Linked) → Links files leaf (Ok linked) → AreListed files leaf linked.files
listed files leaf _ (chains.linked found chain leads down) =
    let w = found_way files leaf found leads in
    parents_listed files leaf found.retired [] found.leaf (Ok chain) down w.own w.opens chain refl

among_way : (files : Contents) (leaf : List ℕ) (linked : List LinkedFile) → AreListed files leaf linked → (name : List ℕ) → is_among name (names_of linked) ≡ true → IsOnWay files leaf name
among_way files leaf [] h name among = cc
among_way files leaf (f ∷ linked) h name among = by_name (bytes_eq f.name name) refl among (among_way files leaf linked h.1 name)
  where
    by_name : (p : Bool) → bytes_eq f.name name ≡ p → (p || is_among name (names_of linked)) ≡ true → (is_among name (names_of linked) ≡ true → IsOnWay files leaf name) → IsOnWay files leaf name
    by_name true e among further = subst (IsOnWay files leaf) ((bytes_eq-Decides f.name name).0 e) h.0.0
    by_name false e among further = further among

pub on_way : (files : Contents) (leaf : List ℕ) (linked : Linked) → Links files leaf (Ok linked) → (name : List ℕ) → is_among name (names_of linked.files) ≡ true → IsOnWay files leaf name
on_way files leaf linked links = among_way files leaf linked.files (listed files leaf linked links)

-- after they were replayed each is as opening leaves it
module _ (files now : Contents) (leaf : List ℕ) (opened : List (List ℕ)) (replays : Replays opened files now) where
  opened_one : (file : LinkedFile) → OpensIn files file.name (Ok file.parts) → is_among file.name opened ≡ true → IsOpened now file
  opened_one file (present bytes _ had opens) among = by_kept (replays.each file.name bytes had)
    where
      by_kept : ((later : List ℕ) × (now file.name ≡ Some later) × IsKept opened file.name bytes later) → IsOpened now file
      by_kept (later, has, untouched apart) = let never : true ≡ false = sym among ∙ apart in cc
      by_kept (later, has, replayed _ known stands) =
          let again = opens_again bytes later stands in
          record { bytes = later; there = has; reads = opened_parts later later file.parts (file_opened later file.parts (again.alike.opens (Ok file.parts) opens)) again.stays }

  opened_each : (linked : List LinkedFile) → AreListed files leaf linked → ((name : List ℕ) → is_among name (names_of linked) ≡ true → is_among name opened ≡ true) → AreOpened now linked
  opened_each [] h all = tt
  opened_each (f ∷ linked) h all = (
    opened_one f h.0.1 (all f.name (or_left (bytes_eq f.name f.name) (is_among f.name (names_of linked)) ((bytes_eq-Decides f.name f.name).1 refl))),
    opened_each linked h.1 (λ name among. all name (or_right (bytes_eq f.name name) (is_among name (names_of linked)) among)),
  )

pub opened_after : (files now : Contents) (leaf : List ℕ) (linked : Linked) → Links files leaf (Ok linked) → Replays (linked_names linked) files now → AreOpened now linked.files
opened_after files now leaf linked links replays =
    opened_each files now leaf (linked_names linked) replays linked.files (listed files leaf linked links)
    (λ name among. among_append name linked.retired (names_of linked.files) ∙ or_right (is_among name linked.retired) (is_among name (names_of linked.files)) among)

-- ---- their disk

record HasDisk (files : Contents) (leaf : List ℕ) (geometry : Geometry) : Type 0 where
  disk : Disk
  opens : OpensTo (at_rest_all files) leaf disk
  sectors : length disk ≡ geometry.sectors

pub disk_sectors : (chain : List Member) (linked : List LinkedFile) (geometry : Geometry) → AreMembers chain linked → HasGeometry linked geometry → length (disk_of chain) ≡ geometry.sectors
disk_sectors chain [] geometry are has = absurd has
disk_sectors [] (f ∷ linked) geometry are has = absurd are
disk_sectors (m ∷ chain) (f ∷ linked) geometry are has =
    length-flat m.ties.geometry.sector m.ties.geometry.sectors (m.layer ∷ layers_of chain) ∙ ap (λ (t : Ties). t.geometry.sectors) are.0.ties ∙ ap (λ (g : Geometry). g.sectors) has

has_disk : (files : Contents) (leaf : List ℕ) (linked : Linked) (geometry : Geometry) → Links files leaf (Ok linked) → HasGeometry linked.files geometry → HasDisk files leaf geometry
has_disk files leaf linked geometry links has =
    let c = links_are_chains files leaf linked links in
    record { disk = disk_of c.chain; opens = record { retired = c.retired; chain = c.chain; linked = c.linked; is = refl }; sectors = disk_sectors c.chain linked.files geometry c.members has }

-- files of one name and place among these are one
pub same_members : (files : Files) (a b : List Member) (linked : List LinkedFile) → AllByRecursion (IsIn files) a → AllByRecursion (IsIn files) b → AreMembers a linked → AreMembers b linked → a ≡ b
same_members files [] [] linked h k x y = refl
same_members files [] (n ∷ b) [] h k x y = absurd y
same_members files [] (n ∷ b) (f ∷ linked) h k x y = absurd x
same_members files (m ∷ a) [] [] h k x y = absurd x
same_members files (m ∷ a) [] (f ∷ linked) h k x y = absurd y
same_members files (m ∷ a) (n ∷ b) [] h k x y = absurd x
same_members files (m ∷ a) (n ∷ b) (f ∷ linked) h k x y =
    ap (λ z. z ∷ a) (one_member files m n h.0 k.0 (x.0.name ∙ sym y.0.name)) ∙ ap (λ zs. n ∷ zs) (same_members files a b linked h.1 k.1 x.1 y.1)

pub last_in : (P : Member → Type 0) (a b : List Member) → AllByRecursion P (a ++ b) → AllByRecursion P b
last_in P [] b h = h
last_in P (m ∷ a) b h = last_in P a b h.1

-- what was read of the replayed files is of the disk to which the name is opened
pub read_of_disk : (files now : Contents) (leaf : List ℕ) (linked : Linked) (opened : List (List ℕ)) (links : Links files leaf (Ok linked)) → Replays opened files now → (first count : ℕ) (bytes : List ℕ) → HasRead now linked.files first count bytes
    → bytes ≡ bytes_of (take count (drop first (disk_of (links_are_chains files leaf linked links).chain)))
read_of_disk files now leaf linked opened links replays first count bytes read =
    let c = links_are_chains files leaf linked links in
    let keeps = replays_keep opened files now replays in
    let there = members_alike files (at_rest_all now) (λ name was had. let k = keeps.each name was had in record { now = k.0; there = ap (option_map at_rest) k.1; alike = k.2 }) c.chain (last_in (IsIn (at_rest_all files)) c.retired c.chain c.linked.there) in
    read.bytes_are ∙ ap (λ ms. bytes_of (take count (drop first (disk_of ms)))) (same_members (at_rest_all now) read.members c.chain linked.files read.there there read.are c.members)

-- ---- answers

-- what stands for a refusal, of an answer that is this one
pub refused_answer : {A E : Type 0} (meaning : E → Meaning Refusal) (P : Result A Refusal → Type 0) (result : Result A E) (e : E) → IsErrAnd result (λ x. x ≡ e) → IfCause P (cause_in (meaning e)) → AnswersBy meaning P result
refused_answer meaning P (Ok x) e is h = absurd is
refused_answer meaning P (Err x) e is h = subst (λ x. IfCause P (cause_in (meaning x))) (sym is) h

pub followed_err : {A E : Type 0} (meaning : E → Meaning Refusal) (leaf : List ℕ) (old new : Hosted) (result : Result A E) (e : E) → IsErrAnd result (λ x. x ≡ e) → LeavesFollowedBy leaf old new (meaning e) → LeavesFollowed meaning leaf old new result
followed_err meaning leaf old new (Ok x) e is h = absurd is
followed_err meaning leaf old new (Err x) e is h = subst (λ x. LeavesFollowedBy leaf old new (meaning x)) (sym is) h

-- a name that leads to no chain
pub chain_cause : {A : Type 0} (files : Contents) (leaf : List ℕ) (P : Result A Refusal → Type 0) → ((r : chains.Refusal) → Links files leaf (Err r) → P (Err (OfChain r))) → (meaning : Meaning chains.Refusal)
    → IfCause (Links files leaf) (cause_in meaning) → IfCause P (cause_in (of_chain meaning))
chain_cause files leaf P each (refuses refusal) h = each refusal h
chain_cause files leaf P each (host_failed fault) h = tt
chain_cause files leaf P each (store_failed fault) h = tt
chain_cause files leaf P each no_memory h = tt

same_linked : (a b : Linked) → (let r : Result Linked chains.Refusal = Ok a in r) ≡ Ok b → a ≡ b
same_linked a b e = cc

pub order_stopped : (leaf : List ℕ) (old new : Hosted) (meaning : Meaning chains.Refusal) → WhereTold old.folder (λ f. IfCause (Links (contents f) leaf) (cause_in meaning)) → LeavesBy old new meaning → LeavesFollowedBy leaf old new (of_chain meaning)
order_stopped leaf old new (refuses refusal) answers h = record {
  opened = h.opened;
  has = h.has;
  all = λ f told linked links. absurd (not_two linked refusal (one_linking (contents f) leaf (Ok linked) (Err refusal) links (answers f told)));
}
order_stopped leaf old new (host_failed fault) answers h = h
order_stopped leaf old new (store_failed fault) answers h = h
order_stopped leaf old new no_memory answers h = h

-- one that leads to a chain
module _ (leaf : List ℕ) (linked : Linked) (old : Hosted) (links : WhereTold old.folder (λ f. Links (contents f) leaf (Ok linked))) where
  pub has_followed : (new : Hosted) → HasReplayed (linked_names linked) old new → HasFollowed leaf old new
  has_followed new h = record { opened = linked_names linked; has = h; all = λ f told other also. ap linked_names (same_linked linked other (one_linking (contents f) leaf (Ok linked) (Ok other) (links f told) also)) }

  module _ (mid : Hosted) (before : HasReplayed (linked_names linked) old mid) where
    -- where the folder is told later, it was
    pub told_first : (g : List Held) → mid.folder ≡ Some g → (f : List Held) × (old.folder ≡ Some f) × Replays (linked_names linked) (contents f) (contents g)
    told_first g told = by_folder old.folder refl
      where
        by_folder : (folder : Option (List Held)) → old.folder ≡ folder → (f : List Held) × (old.folder ≡ Some f) × Replays (linked_names linked) (contents f) (contents g)
        by_folder None e = let never : None ≡ Some g = sym (before.untold e) ∙ told in cc
        by_folder (Some f) e =
            let m = before.files f e in
            (f, e, subst (λ x. Replays (linked_names linked) (contents f) (contents x)) (same_Some m.0 g (sym m.1 ∙ told)) m.2)

    pub opened_in : (files : List LinkedFile) → files ≡ linked.files → WhereTold mid.folder (λ g. AreOpened (contents g) files)
    opened_in files same g told =
        let f = told_first g told in
        subst (AreOpened (contents g)) (sym same) (opened_after (contents f.0) (contents g) leaf linked (links f.0 f.1) f.2)

    pub then_read : (new : Hosted) → HasReplayed [] mid new → HasFollowed leaf old new
    then_read new h = has_followed new (subst (λ names. HasReplayed names old new) (append-nil (linked_names linked)) (replayed_then (linked_names linked) old mid new before [] h))

    pub read_stopped : (new : Hosted) (meaning : Meaning Refusal) → LeavesReadBy mid new meaning → LeavesFollowedBy leaf old new meaning
    read_stopped new (refuses refusal) h = absurd h
    read_stopped new (host_failed fault) h = let m : Meaning Refusal = host_failed fault in left_then (linked_names linked) old mid new before m h
    read_stopped new (store_failed fault) h = let m : Meaning Refusal = store_failed fault in left_then (linked_names linked) old mid new before m h
    read_stopped new no_memory h = let m : Meaning Refusal = no_memory in left_then (linked_names linked) old mid new before m h

    pub then_attached : (files : List LinkedFile) (new : Hosted) → files ≡ linked.files → WhereTold old.folder AllIdle → TouchesSafely (λ f. IsOnWay (contents f) leaf) old mid → OnlyAttaches (names_of files) mid new → TouchesSafely (λ f. IsOnWay (contents f) leaf) old new
    then_attached files new same idle touches attaches f told =
        let m = before.files f told in
        let first = touches f told in
        let way = on_way (contents f) leaf linked (links f told) in
        throughout_join (AreSafe (IsOnWay (contents f) leaf) f) old mid new first
        (throughout_weaken (AreAnew (names_of files) m.0) (AreSafe (IsOnWay (contents f) leaf) f) mid new
        (λ x h. anew_safe (IsOnWay (contents f) leaf) (names_of files) (λ name among. way name (subst (λ fs. is_among name (names_of fs) ≡ true) same among)) f m.0 x (before.idle f told m.0 m.1) (first.now m.0 m.1) h)
        (attaches m.0 m.1))

-- reads refuse nothing
pub read_no_cause : {A : Type 0} (P : Result A Refusal → Type 0) (old new : Hosted) (meaning : Meaning Refusal) → LeavesReadBy old new meaning → IfCause P (cause_in meaning)
read_no_cause P old new (refuses refusal) h = absurd h
read_no_cause P old new (host_failed fault) h = tt
read_no_cause P old new (store_failed fault) h = tt
read_no_cause P old new no_memory h = tt

pub last_once : (names rest : List (List ℕ)) → NoneTwice (names ++ rest) → NoneTwice rest
last_once [] rest once = once
last_once (name ∷ names) rest once = last_once names rest once.1

-- ---- a dump

module _ (f : List Held) (leaf : List ℕ) (linked : Linked) (geometry : Geometry) (links : Links (contents f) leaf (Ok linked)) (has : HasGeometry linked.files geometry) (first count : ℕ) where
  pub range_answer : (refusal : CallRefusal) → range_refusal first count 2048 geometry.sectors ≡ Err refusal → Finds f leaf first count (Err (OfCall refusal))
  range_answer refusal is =
      let d = has_disk (contents f) leaf linked geometry links has in
      dump.refused_range d.disk refusal d.opens (ap (λ n. range_refusal first count 2048 n) d.sectors ∙ is)

  pub found_answer : (g : List Held) (opened : List (List ℕ)) (bytes : List ℕ) → Replays opened (contents f) (contents g) → range_refusal first count 2048 geometry.sectors ≡ Ok tt → HasRead (contents g) linked.files first count bytes
      → Finds f leaf first count (Ok bytes)
  found_answer g opened bytes replays given read =
      let c = links_are_chains (contents f) leaf linked links in
      subst (λ b. Finds f leaf first count (Ok b)) (sym (read_of_disk (contents f) (contents g) leaf linked opened links replays first count bytes read))
      (dump.found (disk_of c.chain) (record { retired = c.retired; chain = c.chain; linked = c.linked; is = refl }) (ap (λ n. range_refusal first count 2048 n) (disk_sectors c.chain linked.files geometry c.members has) ∙ given))

-- the first file's geometry is the disk's, which has no more sectors than a disk may have
pub geometry_of : (leaf : LinkedFile) (files : List LinkedFile) → BeginsWith leaf files → HasGeometry files leaf.parts.geometry
geometry_of leaf files begins = subst (λ fs. HasGeometry fs leaf.parts.geometry) (sym begins.is) refl

pub few_sectors : (files : List LinkedFile) (geometry : Geometry) → All IsServed files → HasGeometry files geometry → geometry.sectors ≤ 2 ^ 37
few_sectors [] geometry served has = absurd has
few_sectors (f ∷ files) geometry served has =
    let s = served zero f (omega arith) in
    let most : f.parts.geometry.sectors * 512 ≤ 2 ^ 46 = subst (λ n. f.parts.geometry.sectors * n ≤ 2 ^ 46) s.sector s.numbers.most in
    subst (λ (g : Geometry). g.sectors ≤ 2 ^ 37) has (omega (arith, most))

-- ---- a parent's chain

module _ (files now : Contents) (leaf : List ℕ) (opened : List (List ℕ)) (replays : Replays opened files now) where
  shows_one : (file : LinkedFile) (others : List LinkedFile) (known : List (List ℕ)) (later settled : List ℕ) → OpensIn files file.name (Ok file.parts) → is_among file.name opened ≡ true → now file.name ≡ Some later → StandsFor later settled
      → ShowIds files others known → ShowIds files (file ∷ others) (shown file.parts settled ++ known)
  shows_one file others known later settled (present bytes _ had opens) among has stands rest = by_kept (replays.each file.name bytes had)
    where
      by_kept : ((x : List ℕ) × (now file.name ≡ Some x) × IsKept opened file.name bytes x) → ShowIds files (file ∷ others) (shown file.parts settled ++ known)
      by_kept (x, also, untouched apart) = let never : true ≡ false = sym among ∙ apart in cc
      by_kept (x, also, replayed _ known_ stood) =
          let one : later ≡ x = same_Some later x (sym has ∙ also) in
          let again = opens_again bytes x stood in
          let same : x ≡ settled = stands_once x x settled again.stays (subst (λ b. StandsFor b settled) one stands) in
          more file others bytes settled known had (subst (StandsFor bytes) same stood) rest

  shows_before : (linked : List LinkedFile) (known : List (List ℕ)) → AreListed files leaf linked → ((name : List ℕ) → is_among name (names_of linked) ≡ true → is_among name opened ≡ true) → ShowIds now linked known → ShowIds files linked known
  shows_before _ _ h all none = none
  shows_before _ _ h all (more file others later settled known has stands rest) =
      shows_one file others known later settled h.0.1 (all file.name (or_left (bytes_eq file.name file.name) (is_among file.name (names_of others)) ((bytes_eq-Decides file.name file.name).1 refl))) has stands
      (shows_before others known h.1 (λ name among. all name (or_right (bytes_eq file.name name) (is_among name (names_of others)) among)) rest)

pub shown_before : (files now : Contents) (leaf : List ℕ) (linked : Linked) (known : List (List ℕ)) → Links files leaf (Ok linked) → Replays (linked_names linked) files now → ShowIds now linked.files known → ShowIds files linked.files known
shown_before files now leaf linked known links replays shows =
    shows_before files now leaf (linked_names linked) replays linked.files known (listed files leaf linked links)
    (λ name among. among_append name linked.retired (names_of linked.files) ∙ or_right (is_among name linked.retired) (is_among name (names_of linked.files)) among) shows

-- what is so of what a file stands for once it is opened was so before
pub stands_before : (files now : Contents) (leaf : List ℕ) (linked : Linked) (name : List ℕ) (P : List ℕ → Type 0) → Replays (linked_names linked) files now → is_among name (names_of linked.files) ≡ true → StandsSo now name P → StandsSo files name P
stands_before files now leaf linked name P replays among so = by_had (files name) refl where
  among_all : is_among name (linked_names linked) ≡ true
  among_all = among_append name linked.retired (names_of linked.files) ∙ or_right (is_among name linked.retired) (is_among name (names_of linked.files)) among

  by_kept : (bytes x : List ℕ) → files name ≡ Some bytes → now name ≡ Some x → IsKept (linked_names linked) name bytes x → StandsSo files name P
  by_kept bytes x had also (untouched apart) = let never : true ≡ false = sym among_all ∙ apart in cc
  by_kept bytes x had also (replayed _ known stood) =
      let one : so.bytes ≡ x = same_Some so.bytes x (sym so.there ∙ also) in
      let again = opens_again bytes x stood in
      let same : x ≡ so.settled = stands_once x x so.settled again.stays (subst (λ b. StandsFor b so.settled) one so.stands) in
      record { bytes = bytes; settled = so.settled; there = had; stands = subst (StandsFor bytes) same stood; so = so.so }

  by_had : (o : Option (List ℕ)) → files name ≡ o → StandsSo files name P
  by_had None e = let never : None ≡ Some so.bytes = sym (replays.none name e) ∙ so.there in cc
  by_had (Some bytes) e = let k = replays.each name bytes e in by_kept bytes k.0 e k.1 k.2
