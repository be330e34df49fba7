-- What is said of an answer that hands a fault on, and of tables that a read left.
use Rattle.std.proofs.Common.{◌≡◌, ℕ, ◌+◌, ◌*◌, ◌^◌, ◌<◌, ◌≤◌, List, ◌∷◌, map, Contains, Some, true, false, refl, sym, ap, subst, ◌∙◌, arith}
use Rattle.std.proofs.Math.Nat.{mul_comm}
use Rattle.chain_model.specs.Layers as chain
use Rattle.layer_session.specs.FileLayers.{FileCanBeRead, HasSession, IsSameFile, number_of}
use Rattle.layer_session.specs.ReadOnly.{IsSameRead, numbers_of}
use Rattle.layer_session.specs.declared.file_layer.FileLayer.{FileLayer}
use Rattle.layer_session.specs.declared.file_layer.FileLayer.TheVariants.{Read, Session}
use Rattle.layer_session.specs.declared.read_layer.ReadLayer.{ReadLayer}
use Rattle.layer_session.specs.Calls.{HasOwned, IsSame}
use Rattle.layer_session.specs.declared.file.Layer.{Layer}
use Rattle.std.specs.Prelude.{Result, Ok, Err, IfErr, OnErr, OnOk}
use Rattle.store_model.specs.declared.fault.StoreFault.{StoreFault}
use Rattle.store_model.specs.Disk.{Disk, ReadFailed}
use Rattle.store_model.specs.File.{seen}
use Rattle.store_model.specs.Trace.{file_of}
use Rattle.layer_session.specs.Keeping.{IsHeld}
use Rattle.table_pages.specs.declared.tables.TableParts.{TableParts}
use Rattle.layer_session.proofs.Owned.{owned_none, rows}

-- A disk that a read left as it was.
pub there_still : (file : ℕ) (old new : Disk) → new ≡ old → file < old.files → file < new.files
there_still file old new e h = subst (λ (d : Disk). file < d.files) (sym e) h

pub stays_then : {T E : Type 0} (r : Result T E) (old mid new : Disk) → mid ≡ old → OnOk r (new ≡ mid) → OnOk r (new ≡ old)
stays_then (Ok x) old mid new e h = h ∙ e
stays_then (Err x) old mid new e h = tt

pub fails_then : {T : Type 0} (r : Result T StoreFault) (file other : ℕ) (old mid new : Disk) → mid ≡ old → other ≡ file → IfErr r (ReadFailed other mid new) → IfErr r (ReadFailed file old new)
fails_then (Ok x) file other old mid new e f h = tt
fails_then (Err fault) file other old mid new e f h = subst (λ n. ReadFailed n old new fault) f (subst (λ (d : Disk). ReadFailed other d new fault) e h)

-- Parts that are the same.
pub sectors_of : (p q : TableParts) (n : ℕ) → q ≡ p → n ≤ p.sectors → n ≤ q.sectors
sectors_of p q n e h = subst (λ (x : TableParts). n ≤ x.sectors) (sym e) h

pub bytes_of : (p q : TableParts) (n count : ℕ) → q ≡ p → n ≡ p.sector * count → n ≡ q.sector * count
bytes_of p q n count e h = subst (λ (x : TableParts). n ≡ x.sector * count) (sym e) h

-- The front of a run.
pub few_rows : (at len count most : ℕ) → len ≤ count → at + count ≤ most → at + len ≤ most
few_rows at len count most few h = omega (arith, few, h)

pub front_in : (from z len count n : ℕ) → from ≡ z → len ≤ count → n ≡ z * count → from * len ≤ n
front_in from z len count n e few is = let r = rows z len count few in let a : z * len ≡ len * z = mul_comm z len in let b : z * count ≡ count * z = mul_comm z count in let s = ap (λ k. k * len) e in omega (arith, r, a, b, s, is)

-- The bytes of sectors of a disk are few.
pub few_bytes : (from z first len count sectors : ℕ) → from ≡ z → len ≤ count → first + count ≤ sectors → sectors * z ≤ 2 ^ 46 → from * len ≤ 2 ^ 46
few_bytes from z first len count sectors e few inside most =
    let few_here : len ≤ sectors = omega (arith, few, inside) in
    let r = rows z len sectors few_here in let b : z * sectors ≡ sectors * z = mul_comm z sectors in let s = ap (λ k. k * len) e in omega (arith, r, b, s, most)

-- Of no sectors none is found.
pub none_owned : (l : chain.Layer) (z first count at : ℕ) (m a : List ℕ) → count ≡ 0 → HasOwned l z first count at m m a a
none_owned l z first count at m a e = subst (λ n. HasOwned l z first n at m m a a) (sym e) (owned_none l z first at m a)

-- The front of what lies in a file.
pub front_within : (place z len count n : ℕ) → len ≤ count → place + z * count ≤ n → place + z * len ≤ n
front_within place z len count n few h = let r = rows z len count few in omega (arith, r, h)

-- What is the same of each of some layers.
pub same_of_each : {L A : Type 0} (f : L → A) (layers : List L) (upper new : L) (below after : List L) → layers ≡ upper ∷ below → f new ≡ f upper → map f after ≡ map f below → map f (new ∷ after) ≡ map f layers
same_of_each f layers upper new below after is one rest = ap (λ x. x ∷ map f after) one ∙ ap (λ xs. f upper ∷ xs) rest ∙ sym (ap (map f) is)

-- The upper file's fault.
pub first_number : (upper : ReadLayer) (below : List ReadLayer) (n : ℕ) → n ≡ upper.tables.parts.file → Contains (numbers_of (upper ∷ below)) n
first_number upper below n e = (0, omega arith, sym e)

pub file_there : (l : FileLayer) (disk : Disk) → FileCanBeRead l disk → number_of l < disk.files
file_there (Session l) disk can = can.there
file_there (Read l) disk can = can.there

-- A file whose layer is the same.
pub same_session : (old new : Layer) (disk : Disk) → IsSame old new disk → IsSameFile (Session old) (Session new) disk
same_session old new disk same = record {
  parts = same.parts;
  number = ap Some same.number;
  header = ap Some same.header;
  readable = same.readable;
  ready = same.ready;
  holds = λ trace layer told h. (h.0, subst (λ (p : TableParts). IsHeld new h.0 layer (seen (file_of trace p.file))) (sym same.parts) (same.holds trace h.0 layer told h.1));
  has = same.serves;
}

pub same_read_file : (old new : ReadLayer) (disk : Disk) → IsSameRead old new disk → IsSameFile (Read old) (Read new) disk
same_read_file old new disk same = record {
  parts = same.parts;
  number = refl;
  header = refl;
  readable = same.readable;
  ready = λ r. same.readable;
  holds = λ trace layer told h. (h.0, (same.reads trace h.0 told h.1.0, h.1.1));
  has = same.reads;
}

pub fails_on : (file other : ℕ) (old mid new : Disk) (fault : StoreFault) → mid ≡ old → other ≡ file → ReadFailed other mid new fault → ReadFailed file old new fault
fails_on file other old mid new fault e f h = subst (λ n. ReadFailed n old new fault) f (subst (λ (d : Disk). ReadFailed other d new fault) e h)

-- A file that is only read is in no session.
pub no_session : (l : FileLayer) (r : ReadLayer) → l ≡ Read r → HasSession l → (P : Type 0) → P
no_session l r is h P = let no : false ≡ true = subst HasSession is h in absurd (let w : ⊥ = cc in w)

pub on_err_map : {T E : Type 0} (r : Result T E) (P Q : Type 0) → (P → Q) → OnErr r P → OnErr r Q
on_err_map (Ok x) P Q f p = tt
on_err_map (Err e) P Q f p = f p
