-- Where bytes encode a descriptor, each of its fields is read back, and so is the whole.
use Rattle.std.proofs.Common.{rules, ◌≡◌, Ok, ◌∙◌, sym, ap}
use Rattle.nvme_wire.specs.Descriptor.{descriptor_bytes}
use Rattle.nvme_wire.proofs.DescriptorLaws.{descriptor_bytes-parts, HasParts-same}
use Rattle.nvme_wire.proofs.descriptor.Descriptor.decode.Goals as goal

pub returns-in_err-pointer-clause-encoded : goal.returns-in_err-pointer-clause-encoded
returns-in_err-pointer-clause-encoded c d fits e =
    let parts = descriptor_bytes-parts _ d _ _ _ _ fits e (sym c.in-Some.is ∙ c.from_code.ensures) c.u64_at-capacity.ensures c.u64_at-start.ensures c.u64_at.ensures in
    let found = c.in_err-pointer.ensures.encoded d.pointer parts.pointer parts.word_is in
    cc

pub returns-then-eq-clause-encoded : goal.returns-then-eq-clause-encoded
returns-then-eq-clause-encoded c d fits e =
    let parts = descriptor_bytes-parts _ d _ _ _ _ fits e (sym c.in-Some.is ∙ c.from_code.ensures) c.u64_at-capacity.ensures c.u64_at-start.ensures c.u64_at.ensures in
    let found = c.in_ok-pointer.ensures.encoded d.pointer parts.pointer parts.word_is in
    ap Ok (HasParts-same d _ _ _ _ c.in_ok-pointer.pointer parts (cc))

pub returns-else-eq-clause-encoded : goal.returns-else-eq-clause-encoded
returns-else-eq-clause-encoded c d fits e =
    let parts = descriptor_bytes-parts _ d _ _ _ _ fits e (sym c.in-Some.is ∙ c.from_code.ensures) c.u64_at-capacity.ensures c.u64_at-start.ensures c.u64_at.ensures in
    let found = c.in_ok-pointer.ensures.encoded d.pointer parts.pointer parts.word_is in
    let same = HasParts-same d _ _ _ _ c.in_ok-pointer.pointer parts (cc) in
    let encoded : c.encode.result ≡ c.args.bytes.now = c.encode.ensures ∙ ap descriptor_bytes same ∙ sym e in
    search rules
