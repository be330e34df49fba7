-- What stands of the files of a merge's scope behind its session, in the words of its beginning.
use Rattle.std.proofs.Common.{◌≡◌, ℕ, Bool, true, false, List, [], ◌∷◌, map, Option, Some, None, refl, sym, ap, subst, ◌∙◌}
use Rattle.std.specs.Prelude.{◌||◌, is_some}
use Rattle.std.specs.List.{AllByRecursion}
use Rattle.store_model.specs.File.{File, is_synced, seen}
use Rattle.layer_session.specs.Unnamed.{NamesNoLog}
use Rattle.store_model.specs.Trace.{Trace, file_of}
use Rattle.guest_model.specs.History.{History}
use Rattle.chain_model.specs.Images.{Placed, members_of}
use Rattle.chain_model.specs.Members.{names_of}
use Rattle.chain_core.specs.Answering.{EachLinks}
use Rattle.chain_core.specs.Sealed.{GoesOnSealed, IsKept}
use Rattle.chain_core.specs.Starting.{opening_disk}
use Rattle.chain_core.specs.Sessions.{has_merge}
use Rattle.chain_core.specs.declared.layers.Layers.{Layers}
use Rattle.chain_core.specs.declared.layers.Retiring.{Retiring}
use Rattle.chain_core.specs.declared.layers.Underway.{Underway}
use Rattle.chain_core.specs.States.{IsCourse, IsRetiring, IsServing, Rest, State, files_of, merging, others_of, plain, retiring, sector_of}
use Rattle.link_rules.specs.declared.linked.LinkedFile.{LinkedFile}
use Rattle.script_session.specs.Histories.{IsLater, all_names, is_under_way, names_left, numbers_left, staying}
use Rattle.script_session.specs.MergeRunning.{Scope}
use Rattle.script_session.proofs.LeftFiles.{all_numbers, all_stay, later_number, later_since, later_writes, own_synced, own_unnamed}

-- a file is the same
abbrev pub IsSame : File → File → Type 0
IsSame old new = new ≡ old

-- What the session's first state has of its scope: `mid` is the moment when its merge was prepared, or when what it only reads was sealed. What
-- isn't of the scope is left so.
pub record IsScope (Left : File → File → Type 0) (scope : Scope) (v : State) (trace mid : Trace) : Type 1 where
  pub leaf : v.leaf ≡ scope.leaf
  pub history : v.history ≡ []
  pub opening : v.opening ≡ opening_disk trace scope.files
  pub began : v.began ≡ trace
  pub since : v.since ≡ mid
  pub changes : (n : ℕ) → scope.changes n ≡ false → v.writes n ≡ false
  pub rest : (other : ℕ) → scope.changes other ≡ false → Left (file_of trace other) (file_of mid other)
  pub quiet : (n : ℕ) → scope.changes n ≡ true → v.writes n ≡ false → is_synced (file_of mid n) ≡ true
  pub unnamed : (n : ℕ) → scope.changes n ≡ true → v.writes n ≡ false → NamesNoLog (seen (file_of mid n))
  pub own : (P : ℕ → Type 0) → P v.top.number → AllByRecursion P (numbers_left v) → (n : ℕ) → v.writes n ≡ true → P n
  pub names : names_left v ≡ scope.staying
  pub all : all_names v ≡ map (λ (f : LinkedFile). f.name) scope.files

-- once what it only reads was sealed
pub sealed_scope : (layers : Layers) (scope : Scope) (v : State) (trace mid now : Trace) → GoesOnSealed layers mid now → IsScope IsSame scope v trace mid → IsScope IsKept scope (record v { since = now }) trace now
sealed_scope layers scope v trace mid now goes is = record {
  leaf = is.leaf;
  history = is.history;
  opening = is.opening;
  began = is.began;
  since = refl;
  changes = is.changes;
  rest = λ other none. subst (λ f. IsKept f (file_of now other)) (is.rest other none) (goes.kept other);
  quiet = λ n changed unwritten. goes.synced n ∙ is.quiet n changed unwritten;
  unnamed = λ n changed unwritten. subst (λ (bytes : List ℕ). NamesNoLog bytes) (sym (goes.bytes n)) (is.unnamed n changed unwritten);
  own = is.own;
  names = is.names;
  all = is.all;
}

module _ {Left : File → File → Type 0} (scope : Scope) (v : State) (trace mid : Trace) (is : IsScope Left scope v trace mid) (h : History) (later : State) (same : IsLater v h later) (now : Trace) where
  -- what it may change its scope may
  pub may_change : (n : ℕ) → v.writes n ≡ true → scope.changes n ≡ true
  may_change n written = by_change (scope.changes n) refl
    where
      by_change : (b : Bool) → scope.changes n ≡ b → scope.changes n ≡ true
      by_change true e = e
      by_change false e = let never : false ≡ true = sym (is.changes n e) ∙ written in cc

  of_members : (files : List Placed) → names_of (members_of files) ≡ map (λ f. f.member.name) files
  of_members [] = refl
  of_members (f ∷ files) = ap (λ rest. f.member.name ∷ rest) (of_members files)

  none_stays : (top : Placed) (rest : Rest) → is_under_way rest ≡ false → staying top rest ≡ top ∷ others_of rest
  none_stays top (plain others) e = refl
  none_stays top (merging above source target below m) e = let never : true ≡ false = e in cc
  none_stays top (retiring target below first before) e = let never : true ≡ false = e in cc

  -- where no merge is under way any more the files are those that stay
  pub links_left : is_under_way later.rest ≡ false → EachLinks later.leaf.name (names_of (members_of (files_of later))) now → EachLinks scope.leaf.name scope.staying now
  links_left none links =
      let names : map (λ f. f.member.name) (files_of later) ≡ scope.staying = ap (map (λ f. f.member.name)) (sym (none_stays later.top later.rest none)) ∙ same.names ∙ is.names in
      subst (λ l. EachLinks l.name scope.staying now) (same.leaf ∙ is.leaf) (subst (λ ns. EachLinks later.leaf.name ns now) (of_members (files_of later) ∙ names) links)

  -- and else all
  pub links_all : is_under_way later.rest ≡ true → EachLinks later.leaf.name (names_of (members_of (files_of later))) now → EachLinks scope.leaf.name (map (λ (f : LinkedFile). f.name) scope.files) now
  links_all under links =
      subst (λ l. EachLinks l.name (map (λ (f : LinkedFile). f.name) scope.files) now) (same.leaf ∙ is.leaf) (subst (λ ns. EachLinks later.leaf.name ns now) (of_members (files_of later) ∙ (same.whole under).1 ∙ is.all) links)

  module _ (still : (other : ℕ) → later.writes other ≡ false → file_of now other ≡ file_of later.since other) where
    -- no file was changed but those of the scope
    pub others_as : (other : ℕ) → scope.changes other ≡ false → Left (file_of trace other) (file_of now other)
    others_as other none =
        let unwritten : v.writes other ≡ false = is.changes other none in
        subst (Left (file_of trace other)) (sym (still other (later_writes v later same.goes other unwritten) ∙ later_since v later same.goes other unwritten ∙ ap (λ t. file_of t other) is.since)) (is.rest other none)

    -- nothing of the files that are changed is unsynced
    module _ (synced : AllByRecursion (λ f. is_synced (file_of now f.number) ≡ true) (files_of later)) where
      abbrev Synced : ℕ → Type 0
      Synced n = is_synced (file_of now n) ≡ true

      staying_synced : AllByRecursion Synced (numbers_left v)
      staying_synced =
          subst (AllByRecursion Synced) same.left (all_numbers Synced (staying later.top later.rest) (all_stay (λ f. Synced f.number) later.top later.rest synced.0 synced.1))

      weaker : (ns : List ℕ) → AllByRecursion Synced ns → AllByRecursion (λ n. later.writes n ≡ true → Synced n) ns
      weaker [] h = tt
      weaker (n ∷ ns) h = ((λ own. h.0), weaker ns h.1)

      pub all_synced : (n : ℕ) → scope.changes n ≡ true → Synced n
      all_synced n changed = by_write (v.writes n) refl
        where
          by_write : (b : Bool) → v.writes n ≡ b → Synced n
          by_write false none = ap is_synced (still n (later_writes v later same.goes n none) ∙ later_since v later same.goes n none ∙ ap (λ t. file_of t n) is.since) ∙ is.quiet n changed none
          by_write true some =
              own_synced v later h now same still n some
              (is.own (λ n. later.writes n ≡ true → Synced n) (λ own. subst Synced (later_number v later same.goes own) synced.0) (weaker (numbers_left v) staying_synced) n some)

    -- and none of them names a log
    module _ (named : AllByRecursion (λ f. later.writes f.number ≡ true → NamesNoLog (seen (file_of now f.number))) (files_of later)) where
      abbrev Unnamed : ℕ → Type 0
      Unnamed n = later.writes n ≡ true → NamesNoLog (seen (file_of now n))

      staying_unnamed : AllByRecursion Unnamed (numbers_left v)
      staying_unnamed =
          subst (AllByRecursion Unnamed) same.left (all_numbers Unnamed (staying later.top later.rest) (all_stay (λ f. Unnamed f.number) later.top later.rest named.0 named.1))

      pub all_unnamed : (n : ℕ) → scope.changes n ≡ true → NamesNoLog (seen (file_of now n))
      all_unnamed n changed = by_write (v.writes n) refl
        where
          by_write : (b : Bool) → v.writes n ≡ b → NamesNoLog (seen (file_of now n))
          by_write false none =
              subst (λ (f : File). NamesNoLog (seen f)) (sym (still n (later_writes v later same.goes n none) ∙ later_since v later same.goes n none ∙ ap (λ t. file_of t n) is.since)) (is.unnamed n changed none)
          by_write true some =
              own_unnamed v later h now same still n some
              (is.own Unnamed (λ own. subst (λ k. NamesNoLog (seen (file_of now k))) (later_number v later same.goes own) (named.0 (ap later.writes (later_number v later same.goes own) ∙ own))) staying_unnamed n some)

-- the code keeps a merge exactly where one is under way
pub under_way_is : (layers : Layers) (v : State) (trace : Trace) → IsServing layers v trace → is_under_way v.rest ≡ has_merge layers
under_way_is layers v trace serving = go layers.merge layers.retiring v.rest serving.course serving.leaving
  where
    go : (o : Option Underway) (r : Option Retiring) (rest : Rest) → IsCourse (sector_of v) v.writes layers o v.top rest → IsRetiring (sector_of v) v.writes v.history layers r v.top rest → is_under_way rest ≡ (is_some o || is_some r)
    go None None (plain others) course leaving = refl
    go None None (merging above source target below m) course leaving = absurd course
    go None None (retiring target below first before) course leaving = absurd leaving
    go None (Some r) (plain others) course leaving = absurd leaving
    go None (Some r) (merging above source target below m) course leaving = absurd course
    go None (Some r) (retiring target below first before) course leaving = refl
    go (Some u) r (plain others) course leaving = absurd course
    go (Some u) r (merging above source target below m) course leaving = refl
    go (Some u) r (retiring target below first before) course leaving = absurd course
