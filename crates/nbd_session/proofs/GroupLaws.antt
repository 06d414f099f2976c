-- Requests that have come together: how a group of them grows.
use Rattle.std.proofs.Common.{◌≡◌, ◌⊎◌, ◌∙◌, ℕ, zero, suc, ◌+◌, ◌-◌, ◌*◌, ◌/◌, ◌<◌, ◌≤◌, Bool, true, false, List, [], ◌∷◌, ◌++◌, length, map, take, drop, get_or, Option, Some, refl, sym, ap, inl, inr, arith, append_assoc}
use Rattle.std.specs.Prelude.{Result, nat_eq}
use Rattle.std.specs.List.{AllByRecursion, IsDistinct, flat_map}
use Rattle.std.proofs.Math.Nat.{add-mul}
use Rattle.std.proofs.Math.Seq.{take-add}
use Rattle.std.proofs.lemmas.Bool.Decides.{nat_tests}
use Rattle.std.specs.Io.KnownBytes.{Appends}
use Rattle.std.proofs.KnownBytes.{Appends-trans}
use Rattle.std.proofs.lemmas.List.{append-nil, length-append, length-drop, length-map, map-append, take-append-drop, take_all, take_more}
use Rattle.std.proofs.lemmas.List.Concat.{flat_map-append}
use Rattle.batch_log.specs.declared.header.Entry.{Entry}
use Rattle.batch_log.specs.Log.{data_count}
use Rattle.disk_files.specs.Output.{AppendsFront}
use Rattle.disk_files.proofs.OutputLaws.{front_first, front_second}
use Rattle.nbd_wire.specs.Transmission.{request_bytes}
use Rattle.nbd_wire.specs.declared.request.Request.{Request}
use Rattle.zone_translator.specs.Listed.{blocks_named}
use Rattle.zone_translator.specs.declared.fault.DiskFault.{DiskFault}
use Rattle.nbd_session.specs.declared.asked.Asked.{Asked}
use Rattle.nbd_session.specs.declared.asked.Asked.TheVariants.{Read, Write, Trim, WriteZeroes, Flush}
use Rattle.nbd_session.specs.declared.group.Group.{Group}
use Rattle.nbd_session.specs.declared.group.Member.{Member}
use Rattle.nbd_session.specs.declared.group.Span.{Span}
use Rattle.nbd_session.specs.Groups.{Admits, Asking, IsAhead, IsGathered, IsGroup, IsMember, Joins, LiesApart, asking_bytes, data_of, entries_of, member_of, named, replies_to, reply_to, span_entries, span_of}
use Rattle.nbd_session.specs.Requests.{Carries, data_length}
use Rattle.nbd_session.specs.Store.{StoreView, most_listed}

-- ---- the blocks of a span

next-named : (first n : ℕ) (trim : Bool) → named first (suc n) trim ≡ named first n trim ++ record { block = first + n; trim = trim } ∷ []
next-named first zero trim = let at : first ≡ first + 0 = omega arith in ap (λ (b : ℕ). record { block = b; trim = trim } ∷ []) at
next-named first (suc n) trim =
    let at : suc first + n ≡ first + suc n = omega arith in
    ap (λ (es : List Entry). record { block = first; trim = trim } ∷ es)
    (next-named (suc first) n trim ∙ ap (λ (b : ℕ). named (suc first) n trim ++ record { block = b; trim = trim } ∷ []) at)

-- one block more is named after others
pub named_more : (front now new : List Entry) (first n : ℕ) (trim : Bool) → now ≡ front ++ named first n trim → new ≡ now ++ record { block = first + n; trim = trim } ∷ []
    → new ≡ front ++ named first (n + 1) trim
named_more front now new first n trim was is =
    let on : suc n ≡ n + 1 = omega arith in
    is ∙ ap (λ (es : List Entry). es ++ record { block = first + n; trim = trim } ∷ []) was
    ∙ append_assoc front (named first n trim) (record { block = first + n; trim = trim } ∷ [])
    ∙ ap (λ (es : List Entry). front ++ es) (sym (next-named first n trim)) ∙ ap (λ (k : ℕ). front ++ named first k trim) on

length-named : (first n : ℕ) (trim : Bool) → length (named first n trim) ≡ n
length-named first zero trim = refl
length-named first (suc n) trim = ap suc (length-named (suc first) n trim)

count-trims : (first n : ℕ) → data_count (named first n true) ≡ 0
count-trims first zero = refl
count-trims first (suc n) = omega (arith, count-trims (suc first) n)

count-written : (first n : ℕ) → data_count (named first n false) ≡ n
count-written first zero = refl
count-written first (suc n) = omega (arith, count-written (suc first) n)

-- a block outside a span is none of it
outside : (b first n : ℕ) (trim : Bool) → (b < first) ⊎ (first + n ≤ b) → AllByRecursion (λ y. nat_eq b y ≡ false) (blocks_named (named first n trim))
outside b first zero trim far = tt
outside b first (suc n) trim (inl less) = (grind (arith, nat_tests, less), outside b (suc first) n trim (inl (omega (arith, less))))
outside b first (suc n) trim (inr more) = (grind (arith, nat_tests, more), outside b (suc first) n trim (inr (omega (arith, more))))

distinct-named : (first n : ℕ) (trim : Bool) → IsDistinct nat_eq (blocks_named (named first n trim))
unfolding IsDistinct
distinct-named first zero trim = tt
distinct-named first (suc n) trim = (outside first (suc first) n trim (inl (omega arith)), distinct-named (suc first) n trim)

all-blocks : (P : ℕ → Type 0) (xs ys : List Entry) → AllByRecursion P (blocks_named xs) → AllByRecursion P (blocks_named ys) → AllByRecursion P (blocks_named (xs ++ ys))
all-blocks P [] ys first second = second
all-blocks P (x ∷ xs) ys first second = (first.0, all-blocks P xs ys first.1 second)

distinct-more : (es : List Entry) (span : Span) → IsDistinct nat_eq (blocks_named es) → AllByRecursion (LiesApart span) es → IsDistinct nat_eq (blocks_named (es ++ span_entries span))
unfolding IsDistinct
distinct-more [] span distinct apart = distinct-named span.first span.blocks span.trim
distinct-more (e ∷ es) span distinct apart =
    (all-blocks (λ y. nat_eq e.block y ≡ false) es (span_entries span) distinct.0 (outside e.block span.first span.blocks span.trim apart.0), distinct-more es span distinct.1 apart.1)

-- ---- the data of a group

count-append : (xs ys : List Entry) → data_count (xs ++ ys) ≡ data_count xs + data_count ys
count-append [] ys = omega arith
count-append (x ∷ xs) ys = omega (arith, count-append xs ys)

span-data : (block : ℕ) (wanted : Asked) (count : ℕ) (span : Span) → span_of block wanted count ≡ Some span → Carries block wanted count → count ≡ data_count (span_entries span) * block
span-data block (Write first) count span names carries =
    let is : record { first = first; blocks = count / block; trim = false } ≡ span = cc names in
    rw (← is) (carries ∙ ap (λ (k : ℕ). k * block) (sym (count-written first (count / block))))
span-data block (Trim first n) count span names carries =
    let is : record { first = first; blocks = n; trim = true } ≡ span = cc names in
    rw (← is) (rw (count-trims first n) (omega (arith, carries)))
span-data block (WriteZeroes first n true) count span names carries =
    let is : record { first = first; blocks = n; trim = true } ≡ span = cc names in
    rw (← is) (rw (count-trims first n) (omega (arith, carries)))
span-data block (WriteZeroes first n false) count span names carries = absurd (cc names)
span-data block (Read first n) count span names carries = absurd (cc names)
span-data block Flush count span names carries = absurd (cc names)

-- they are the blocks that are not trimmed
group-data : (store : StoreView) (askings : List Asking) → AllByRecursion (IsMember store) askings → length (data_of askings) ≡ data_count (entries_of askings) * store.disk.drive.geometry.block
group-data store [] all = omega arith
group-data store (a ∷ more) all =
    let block = store.disk.drive.geometry.block in
    let m = all.0 in
    let here : length a.bytes ≡ data_count (span_entries a.span) * block = m.length_is ∙ span-data block a.wanted (data_length a.request) a.span m.joins.names m.joins.whole in
    let rest = group-data store more all.1 in
    length-append a.bytes (data_of more) ∙ omega (arith, here, rest) ∙ sym (add-mul (data_count (span_entries a.span)) (data_count (entries_of more)) block)
    ∙ ap (λ (k : ℕ). k * block) (sym (count-append (span_entries a.span) (entries_of more)))

-- ---- one request more

all-more : (P : Asking → Type 0) (xs : List Asking) (a : Asking) → AllByRecursion P xs → P a → AllByRecursion P (xs ++ a ∷ [])
all-more P [] a all last = (last, tt)
all-more P (x ∷ xs) a all last = (all.0, all-more P xs a all.1 last)

map-more : (f : Asking → List Entry) (xs : List Asking) (a : Asking) → flat_map f (xs ++ a ∷ []) ≡ flat_map f xs ++ f a
map-more f [] a = append-nil (f a)
map-more f (x ∷ xs) a = ap (λ (es : List Entry). f x ++ es) (map-more f xs a) ∙ sym (append_assoc (f x) (flat_map f xs) (f a))

bytes-more : (f : Asking → List ℕ) (xs : List Asking) (a : Asking) → flat_map f (xs ++ a ∷ []) ≡ flat_map f xs ++ f a
bytes-more f [] a = append-nil (f a)
bytes-more f (x ∷ xs) a = ap (λ (bs : List ℕ). f x ++ bs) (bytes-more f xs a) ∙ sym (append_assoc (f x) (flat_map f xs) (f a))

-- it fits
group-more : (store : StoreView) (group : Group) (askings : List Asking) (a : Asking) (count : ℕ) → IsGroup store askings → IsMember store a → group.members.items ≡ map member_of askings → group.entries.items ≡ entries_of askings
    → group.bytes.items ≡ data_of askings → count ≡ length a.bytes → Admits group (most_listed store) a.span count → IsGroup store (askings ++ a ∷ [])
group-more store group askings a count is joins members entries data_is long admits = record {
  each = all-more (IsMember store) askings a is.each joins;
  apart = rw (map-more (λ (a : Asking). span_entries a.span) askings a) (distinct-more (entries_of askings) a.span is.apart (rw entries at admits.apart));
  few = omega (arith, admits.few, ap length members, length-map askings member_of, length-append askings (a ∷ []));
  small = omega (arith, admits.small, is.small, long, ap length data_is, ap length (bytes-more (λ (a : Asking). a.bytes) askings a), length-append (data_of askings) a.bytes);
  listed = omega (arith, admits.listed, is.listed, ap length entries, ap length (map-more (λ (a : Asking). span_entries a.span) askings a), length-append (entries_of askings) (span_entries a.span), length-named a.span.first a.span.blocks a.span.trim);
}

-- the head of a request and its data
ahead-bytes : (bytes : List ℕ) (request : Request) → IsAhead bytes request → take (28 + data_length request) bytes ≡ request_bytes request ++ take (data_length request) (drop 28 bytes)
ahead-bytes bytes request ahead = take-add 28 (data_length request) bytes ∙ ap (λ (head : List ℕ). head ++ take (data_length request) (drop 28 bytes)) ahead.head

-- a group holds one request more
pub gathered_more : (store : StoreView) (front bytes held : List ℕ) (old new : Group) (request : Request) (wanted : Asked) (span : Span) (count : ℕ) → IsGathered store front old → IsAhead bytes request → Joins store request wanted span
    → Admits old (most_listed store) span count → count ≡ data_length request → held ≡ take count (drop 28 bytes) → length held ≡ count
    → new.members.items ≡ old.members.items ++ record { request = request; wanted = wanted } ∷ [] → new.entries.items ≡ old.entries.items ++ span_entries span
    → new.bytes.items ≡ old.bytes.items ++ held → IsGathered store (front ++ take (28 + count) bytes) new
gathered_more store front bytes held old new request wanted span count was ahead joins admits is held_is long members entries data_is =
    let a : Asking = record { request = request; bytes = held; wanted = wanted; span = span } in
    let member : IsMember store a = record { fits = ahead.fits; length_is = long ∙ is; joins = joins } in
    record {
      askings = was.askings ++ a ∷ [];
      is = group-more store old was.askings a count was.is member was.members was.entries was.data_is (sym long) admits;
      bytes_are =
          ap (λ (xs : List ℕ). xs ++ take (28 + count) bytes) was.bytes_are
          ∙ ap (λ (xs : List ℕ). flat_map asking_bytes was.askings ++ xs)
          (ap (λ (k : ℕ). take (28 + k) bytes) is ∙ ahead-bytes bytes request ahead ∙ ap (λ (xs : List ℕ). request_bytes request ++ xs) (sym (held_is ∙ ap (λ (k : ℕ). take k (drop 28 bytes)) is)))
          ∙ sym (bytes-more asking_bytes was.askings a);
      members = members ∙ ap (λ (ms : List Member). ms ++ record { request = request; wanted = wanted } ∷ []) was.members ∙ sym (map-append member_of was.askings (a ∷ []));
      entries = entries ∙ ap (λ (es : List Entry). es ++ span_entries span) was.entries ∙ sym (map-more (λ (a : Asking). span_entries a.span) was.askings a);
      data_is = data_is ∙ ap (λ (bs : List ℕ). bs ++ held) was.data_is ∙ sym (bytes-more (λ (a : Asking). a.bytes) was.askings a);
    }

-- a group that holds none
pub gathered_none : (store : StoreView) (group : Group) → group.members.items ≡ [] → group.entries.items ≡ [] → group.bytes.items ≡ [] → IsGathered store [] group
unfolding IsDistinct
gathered_none store group members entries data_is = record {
  askings = [];
  is = record { each = tt; apart = tt; few = omega arith; small = omega arith; listed = omega arith };
  bytes_are = refl;
  members = members;
  entries = entries;
  data_is = data_is;
}

-- and none more
pub gathered_same : (store : StoreView) (front bytes : List ℕ) (group : Group) → IsGathered store front group → IsGathered store (front ++ take 0 bytes) group
gathered_same store front bytes group was = rw (append-nil front) was

-- ---- what a list asks

pub gathered_distinct : (store : StoreView) (bytes : List ℕ) (group : Group) → IsGathered store bytes group → IsDistinct nat_eq (blocks_named group.entries.items)
gathered_distinct store bytes group g = rw g.entries g.is.apart

pub gathered_whole : (store : StoreView) (bytes : List ℕ) (group : Group) → IsGathered store bytes group → length group.bytes.items ≡ data_count group.entries.items * store.disk.drive.geometry.block
gathered_whole store bytes group g = rw (g.data_is, g.entries) (group-data store g.askings g.is.each)

pub gathered_few : (store : StoreView) (bytes : List ℕ) (group : Group) → IsGathered store bytes group → length group.entries.items ≤ most_listed store
gathered_few store bytes group g = rw g.entries g.is.listed

-- the rest of some bytes
pub rest_is : (at : ℕ) (bytes : List ℕ) → take (length bytes - at) (drop at bytes) ≡ drop at bytes
rest_is at bytes = take_all (length bytes - at) (drop at bytes) (omega (arith, length-drop at bytes))

-- one turn more of the gathering
pub gathered_next : (store : StoreView) (bytes rest : List ℕ) (at n : ℕ) (group : Group) → rest ≡ drop at bytes → at ≤ length bytes → n ≤ length rest → IsGathered store (take at bytes ++ take n rest) group
    → (at + n ≤ length bytes) × IsGathered store (take (at + n) bytes) group
gathered_next store bytes rest at n group is within more g = (
  omega (arith, within, more, ap length is, length-drop at bytes),
  rw (take-add at n bytes) (rw is at g),
)

-- ---- the replies

-- the reply to one request more
pub replies_more : (old middle new : Option (List ℕ)) (done : Result (Unit {0}) DiskFault) (members : List Member) (i : ℕ) (d : Member) (reply : List ℕ) → i < length members → reply ≡ reply_to done (get_or members i d)
    → Appends old middle (replies_to done (take i members)) → Appends middle new reply → Appends old new (replies_to done (take (i + 1) members))
replies_more old middle new done members i d reply lt is first next =
    let m = get_or members i d in
    rw (take_more members i d lt, flat_map-append (reply_to done) (take i members) (m ∷ []), append-nil (reply_to done m), ← is) (Appends-trans old middle new (replies_to done (take i members)) reply first next)

-- the writer fails in it
pub replies_front : (old middle new : Option (List ℕ)) (done : Result (Unit {0}) DiskFault) (members : List Member) (i : ℕ) (d : Member) (reply : List ℕ) → i < length members → reply ≡ reply_to done (get_or members i d)
    → Appends old middle (replies_to done (take i members)) → AppendsFront middle new reply → AppendsFront old new (replies_to done members)
replies_front old middle new done members i d reply lt is first front =
    let m = get_or members i d in
    let split : replies_to done (take (i + 1) members) ≡ replies_to done (take i members) ++ reply =
    rw (take_more members i d lt, flat_map-append (reply_to done) (take i members) (m ∷ []), append-nil (reply_to done m), ← is) refl in
    let whole : replies_to done members ≡ (replies_to done (take i members) ++ reply) ++ replies_to done (drop (i + 1) members) =
    ap (replies_to done) (sym (take-append-drop (i + 1) members)) ∙ flat_map-append (reply_to done) (take (i + 1) members) (drop (i + 1) members)
    ∙ ap (λ (bs : List ℕ). bs ++ replies_to done (drop (i + 1) members)) split in
    rw whole (front_first old new (replies_to done (take i members) ++ reply) (replies_to done (drop (i + 1) members)) (front_second old middle new (replies_to done (take i members)) reply first front))
