-- What is published: a metric of a road network, under a number; and what comes of traffic files.
use Rattle.std.specs.Prelude.{◌≡◌, ℕ, List, [], ◌∷◌, ◌++◌}
use Rattle.control_port.specs.Controlling.{FilesGive, Standing}
use Rattle.control_port.specs.declared.controlled.Controlled.{Controlled}
use Rattle.customized.specs.Exact.{Customized}
use Rattle.edge_graph.specs.NetworkView.{NetworkView}
use Rattle.metric_make.specs.MetricOf.{base_of}
use Rattle.metric_publish.specs.History.{entry}
use Rattle.metric_publish.specs.declared.entry.Entry.{Entry}
use Rattle.reply_core.specs.Answers.{IsLineAnswer}
use Rattle.metric_make.specs.RoadMetric.{RoadMetric, road_of}
use Rattle.reply_core.specs.declared.answers.Answer.{Answer}

abbrev pub Publication : Type 0
Publication = Entry RoadMetric

-- what an entry of a board publishes: a metric, whose cells make no difference to a reply
abbrev pub publication_of : Entry Customized → Publication
publication_of e = entry e.number e.value.road

-- the first publication of a network: number 0, and the metric of its vehicle's profile alone
abbrev pub opening : NetworkView → Publication
opening network = entry 0 (road_of network (base_of network))

abbrev pub newline : List ℕ
newline = 10 ∷ []

-- the text is that of an answer to the line under this publication
abbrev pub IsReply : Publication → List ℕ → List ℕ → Type 0
IsReply p line text = (answer : Answer) × IsLineAnswer p.value p.number line answer × (text ≡ answer.text)

-- the same with a newline behind it
abbrev pub IsReplyLine : Publication → List ℕ → List ℕ → Type 0
IsReplyLine p line text = (reply : List ℕ) × IsReply p line reply × (text ≡ reply ++ newline)

-- what is published, told as the last publication
abbrev pub alone : Publication → Standing Publication
alone last = record {
  network = last.value.network;
  now = last;
  last = last.number;
  with_metric = λ number base. entry number (road_of last.value.network base);
}

-- what comes of the bytes of two traffic files
abbrev pub Comes : Publication → List ℕ → List ℕ → Controlled → Publication → Type 0
Comes last speeds turns answer next = FilesGive (alone last) speeds turns answer next
