use Rattle.std.proofs.Common.{◌++◌, map, ap, ◌∙◌}
use Rattle.std.specs.Prelude.{codes, decimal, string_bytes}
use Rattle.script.proofs.Appended.{grouped_four, grouped_six, written}
use Rattle.script.proofs.refusal_text.push_refused.Goals as goal

pub returns-in-Plain : goal.returns-in-Plain
returns-in-Plain g c = written c.write.result (string_bytes c.args.out.now) (string_bytes c.write.new.self) _ _ c.write.ensures.bytes (c.in-Plain.ensures (map g.N.AsStr.text c.args.names.now))

pub returns-in-One : goal.returns-in-One
returns-in-One g c = written c.write-in-One.result (string_bytes c.args.out.now) (string_bytes c.write-in-One.new.self) _ _ c.write-in-One.ensures.bytes (c.in-One.ensures (map g.N.AsStr.text c.args.names.now))

pub returns-in-Two : goal.returns-in-Two
returns-in-Two g c = written c.write-in-Two.result (string_bytes c.args.out.now) (string_bytes c.write-in-Two.new.self) _ _ c.write-in-Two.ensures.bytes (grouped_four c.in-Two.words.now (decimal c.in-Two.value) c.in-Two.further.now (decimal c.in-Two.second) _ (c.in-Two.ensures (map g.N.AsStr.text c.args.names.now)))

pub returns-in-Three : goal.returns-in-Three
returns-in-Three g c = written c.write-in-Three.result (string_bytes c.args.out.now) (string_bytes c.write-in-Three.new.self) _ _ c.write-in-Three.ensures.bytes (grouped_six c.in-Three.words.now (decimal c.in-Three.value) c.in-Three.further.now (decimal c.in-Three.second) c.in-Three.last.now (decimal c.in-Three.third) _ (c.in-Three.ensures (map g.N.AsStr.text c.args.names.now)))

pub returns-in-OfFile : goal.returns-in-OfFile
returns-in-OfFile g c =
    written c.write-in-OfFile.result (string_bytes c.args.out.now) (string_bytes c.write-in-OfFile.new.self) _ _ c.write-in-OfFile.ensures.bytes
    (grouped_four c.in-OfFile.words.now c.name_of-name.result.now (codes " count ") (decimal c.in-OfFile.count) _
    (ap (λ name. c.in-OfFile.words.now ++ name ++ codes " count " ++ decimal c.in-OfFile.count) c.name_of-name.ensures ∙ c.in-OfFile.ensures (map g.N.AsStr.text c.args.names.now)))
