-- What a drain changes of its node.
use Rattle.std.specs.Prelude.{ℕ}
use Rattle.client_cache.specs.Cache.{word_written}
use Rattle.machine_model.specs.Views.{Node}
use Rattle.store_buffer.specs.Entry.{entry_of}
use Rattle.store_buffer.specs.Groups.{after_take, oldest}
use Rattle.tl_types.specs.Line.{line_of}

-- the word's entry has left the oldest group, and is written to the copy
abbrev pub emptied : ℕ → Node → Node
emptied word n =
    let e = entry_of word (oldest n.buffer) in
    record n { buffer = after_take word n.buffer; cache = word_written n.cache (line_of n.cache.shape.size word) word e.mask e.bytes }
