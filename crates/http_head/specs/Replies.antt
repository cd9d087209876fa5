-- The bytes of a reply on a connection (RFC 9112, sections 4 and 5; the fields and their order are
-- this project's rule).
use Rattle.std.specs.Prelude.{ℕ, Bool, List, ◌++◌, length, codes, ◌==◌, ◌||◌, if◌then◌else◌}
use Rattle.std.specs.Fmt.{decimal}

-- the statuses that a reply may have
abbrev pub is_status : ℕ → Bool
is_status status = status == 200 || (status == 400 || status == 503)

-- the three digits of a status and its phrase
abbrev pub status_text : ℕ → List ℕ
status_text status =
    if status == 200 then codes "200 OK"
    else (if status == 400 then codes "400 Bad Request" else codes "503 Service Unavailable")

-- whether the connection closes after the reply, as its field says it
abbrev pub connection_text : Bool → List ℕ
connection_text close = if close then codes "close" else codes "keep-alive"

-- the status line, three fields and an empty line, of a reply whose body has this length
abbrev pub head_text : ℕ → ℕ → Bool → List ℕ
head_text status size close =
    codes "HTTP/1.1 " ++ status_text status
    ++ codes "\r\nContent-Type: application/json; charset=utf-8\r\nContent-Length: " ++ decimal size
    ++ codes "\r\nConnection: " ++ connection_text close
    ++ codes "\r\n\r\n"

-- the whole reply
abbrev pub reply_text : ℕ → List ℕ → Bool → List ℕ
reply_text status body close = head_text status (length body) close ++ body
