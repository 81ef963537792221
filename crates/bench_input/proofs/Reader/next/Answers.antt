-- `bench_input::Reader::next` meets its contract, section by section. Assumes nothing.
use Rattle.bench_input.proofs.Laws.Laying.{behind-front, behind-id, behind-length, behind-head, in-data}
use Rattle.bench_input.proofs.Reader.next.Goals as goal

pub returns-in-Front : goal.returns-in-Front
returns-in-Front c =
    behind-front _ _ c.in-Front.is c.number_to-n.ensures c.min.ensures c.ids_from.ensures
    c.lower.ensures

pub returns-in-Length : goal.returns-in-Length
returns-in-Length c =
    behind-length _ _ c.in-Length.is c.number_to-n-in-Length.ensures c.head_from.ensures c.lower-in-Length.ensures

pub returns-in-Ids : goal.returns-in-Ids
returns-in-Ids c = behind-id _ _ c.in-Ids.is c.ids_from-in-Ids.ensures

pub returns-in-Head : goal.returns-in-Head
returns-in-Head c = behind-head _ _ c.in-Head.is c.data_from.ensures

pub returns-in-Data : goal.returns-in-Data
returns-in-Data c = in-data _ _ c.in-Data.is
