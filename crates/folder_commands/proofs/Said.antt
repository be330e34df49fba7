-- A file that was made, or wasn't, as what is said of the whole.
use Rattle.std.proofs.Common.{◌≡◌, ℕ, List, ◌∷◌, Option, None, Result, Ok, Err, sym, subst, ◌∙◌}
use Rattle.std.specs.Prelude.{MatchResult, OnOk, codes}
use Rattle.store_model.specs.Disk.{WhereTold}
use Rattle.store_model.specs.Folder.{Held}
use Rattle.grown_chains.specs.Grown.{IsTyped}
use Rattle.link_rules.specs.Chains.{Links}
use Rattle.link_rules.specs.Chains as chains
use Rattle.link_rules.specs.Folders.{contents}
use Rattle.link_rules.specs.Lines.{BeginsWith}
use Rattle.link_rules.specs.declared.linked.Linked.{Linked}
use Rattle.link_rules.specs.declared.linked.LinkedFile.{LinkedFile}
use Rattle.link_rules.proofs.OneLinking.{one_linking}
use Rattle.make_file.specs.Makes.{Answers, Making, Outside}
use Rattle.make_file.specs.declared.refusal.MakeRefusal.{MakeRefusal}
use Rattle.command_base.specs.Causes.{meaning_of_make}
use Rattle.command_base.specs.Commands.{Reports}
use Rattle.command_base.specs.Making.{IsParent, made_line}
use Rattle.folder_commands.specs.Parents.{OpensParent, leads}
use Rattle.folder_commands.specs.declared.making.ParentChain.{ParentChain}
use Rattle.folder_commands.specs.News.{SaysMade, of_file}
use Rattle.folder_commands.specs.declared.making.NewFileRefusal.{NewFileRefusal}
use Rattle.folder_commands.specs.declared.making.NewFileRefusal.TheVariants as refusals
use Rattle.printing.specs.Sent.{Sent}
use Rattle.printing.specs.declared.status.Status.{Status}
use Rattle.printing.specs.declared.status.Status.TheVariants.{Done, NoMemory}

pub said_of_file : (name : List ℕ) (before after : Option (List ℕ)) (old new : ℕ) (status : Status) (made : Result ℕ MakeRefusal) (result : Result ℕ NewFileRefusal) → result ≡ of_file made → SaysMade name result before after old new status
    → MatchResult made (λ len. Sent before after old new Done (made_line name len) status) (λ refusal. Reports (meaning_of_make name refusal) before after old new status)
said_of_file name before after old new status (Ok len) result is said = subst (λ r. SaysMade name r before after old new status) is said
said_of_file name before after old new status (Err refusal) result is said = subst (λ r. SaysMade name r before after old new status) is said

-- that it was made is said, or that memory ran out first
pub made_so : (name : List ℕ) (before after : Option (List ℕ)) (old new : ℕ) (status : Status) (made : Result ℕ NewFileRefusal) (len : ℕ) → made ≡ Ok len → Sent before after old new Done (made_line name len) status → SaysMade name made before after old new status
made_so name before after old new status made len is sent = subst (λ m. SaysMade name m before after old new status) (sym is) sent

pub no_room_so : (name : List ℕ) (before after : Option (List ℕ)) (old new : ℕ) (status : Status) (made : Result ℕ NewFileRefusal) → made ≡ Err refusals.NoRoom → Sent before after old new NoMemory (codes "no memory\n") status → SaysMade name made before after old new status
no_room_so name before after old new status made is sent = subst (λ m. SaysMade name m before after old new status) (sym is) sent

pub untold_by : (making : Making) (before : Option (List Held)) (mid now : Outside) (made : Result ℕ MakeRefusal) (result : Result ℕ NewFileRefusal) → result ≡ of_file made → Answers making mid now made → (before ≡ None → mid.host.folder ≡ None)
    → OnOk result (before ≡ None → now.host.folder ≡ None)
untold_by making before mid now (Ok len) result is answers first = subst (λ r. OnOk r (before ≡ None → now.host.folder ≡ None)) (sym is) (λ none. answers.host.untold (first none))
untold_by making before mid now (Err refusal) result is answers first = subst (λ r. OnOk r (before ≡ None → now.host.folder ≡ None)) (sym is) tt

same_linked : (a b : Linked) → (let r : Result Linked chains.Refusal = Ok a in r) ≡ Ok b → a ≡ b
same_linked a b e = cc

first_same : (a b : LinkedFile) (xs ys : List LinkedFile) → a ∷ xs ≡ b ∷ ys → a ≡ b
first_same a b xs ys e = cc

same_leaf : (leaf other : LinkedFile) (files : List LinkedFile) → BeginsWith leaf files → BeginsWith other files → leaf ≡ other
same_leaf leaf other files a b = first_same leaf other a.rest b.rest (sym a.is ∙ b.is)

-- what the code's leaf is by its types is every leaf to which the parent's name leads
pub typed_by : (folder : Option (List Held)) (result : Result ℕ NewFileRefusal) (parent named : List ℕ) → named ≡ parent → (above : ParentChain) (leaf : LinkedFile) → BeginsWith leaf above.linked.files → IsTyped leaf
    → WhereTold folder (λ f. OpensParent f named (Ok above)) → OnOk result (WhereTold folder (λ f. (other : LinkedFile) (known : List (List ℕ)) → IsParent f parent other known → IsTyped other))
typed_by folder (Err refusal) parent named same above leaf begins typed opens = tt
typed_by folder (Ok len) parent named same above leaf begins typed opens = λ f told other known p. by_links f other known p (subst (λ n. OpensParent f n (Ok above)) same (opens f told))
  where
    by_links : (f : List Held) (other : LinkedFile) (known : List (List ℕ)) → IsParent f parent other known → OpensParent f parent (Ok above) → IsTyped other
    by_links f other known p (leads _ links shows) =
        let one = same_linked above.linked p.linked (one_linking (contents f) parent (Ok above.linked) (Ok p.linked) links p.links) in
        subst IsTyped (same_leaf leaf other p.linked.files (subst (λ (l : Linked). BeginsWith leaf l.files) one begins) p.begins) typed
