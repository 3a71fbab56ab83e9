-- Refusals and replies whose bytes are known, and what the definitions say of them.
use Rattle.std.proofs.Common.{◌≡◌, true, false, [], ◌∷◌, refl}
use Rattle.std.specs.Prelude.{codes, length}
use Rattle.std.specs.Fmt.{digits}
use Rattle.dsv_base.specs.Escapes.{xml_text}
use Rattle.dav_documents.specs.Namespaces.{uri_of}
use Rattle.dav_documents.specs.Written.{body_text, page_text}
use Rattle.dav_replies.specs.declared.allow_kind.AllowKind.TheVariants.{TxrRoot}
use Rattle.dav_replies.specs.declared.client.Client.TheVariants.{Plain, Guest}
use Rattle.dav_replies.specs.declared.refusal.Refusal.TheVariants.{Denied, InfiniteDepth, WrongMethod, OutOfDate, Locked}
use Rattle.dav_replies.specs.Methods.{allow_list}
use Rattle.dav_replies.specs.Replies.{field_of, reply_text}
use Rattle.dav_replies.specs.Refusals.{text_of, error_text, refusal_reply, refusal_bytes}

denied : error_text Plain Denied ≡ codes "<?xml version=\"1.0\" encoding=\"utf-8\"?>\n<D:error xmlns:D=\"DAV:\" xmlns:m=\"http://apache.org/dav/xmlns\"><m:human-readable errcode=\"6\">Denied</m:human-readable></D:error>\n"
unfolding error_text digits body_text page_text xml_text uri_of
denied = refl

denied_to_a_guest : error_text Guest Denied ≡ codes "<?xml version=\"1.0\" encoding=\"utf-8\"?>\n<D:error xmlns:D=\"DAV:\" xmlns:m=\"http://apache.org/dav/xmlns\"><m:human-readable errcode=\"220001\">Denied</m:human-readable></D:error>\n"
unfolding error_text digits body_text page_text xml_text uri_of
denied_to_a_guest = refl

denied_length : length (error_text Plain Denied) ≡ 167
unfolding error_text digits body_text page_text xml_text uri_of
denied_length = refl

infinite_depth : error_text Plain InfiniteDepth ≡ codes "<?xml version=\"1.0\" encoding=\"utf-8\"?>\n<D:error xmlns:D=\"DAV:\" xmlns:m=\"http://apache.org/dav/xmlns\"><D:propfind-finite-depth/><m:human-readable errcode=\"7\">InfiniteDepth</m:human-readable></D:error>\n"
unfolding error_text digits body_text page_text xml_text uri_of
infinite_depth = refl

out_of_date : text_of (OutOfDate 12) ≡ codes "OutOfDate: 12"
unfolding digits
out_of_date = refl

-- the text is escaped in the document, and not before
locked : text_of (Locked (codes "/a&b")) ≡ codes "Locked: /a&b"
locked = refl

locked_length : length (error_text Plain (Locked (codes "/a&b"))) ≡ 178
unfolding error_text digits body_text page_text xml_text uri_of
locked_length = refl

wrong_method : refusal_bytes Plain (WrongMethod TxrRoot) true true ≡ codes "HTTP/1.1 405 Method Not Allowed\r\nAllow: PROPPATCH\r\nContent-Type: text/xml; charset=\"utf-8\"\r\nContent-Length: 173\r\nConnection: close\r\n\r\n"
unfolding refusal_bytes refusal_reply allow_list reply_text error_text digits body_text page_text xml_text uri_of
wrong_method = refl

no_content : reply_text (record { status = 204; fields = field_of (codes "A") (codes "b") ∷ []; content = []; has_content = false }) false false ≡ codes "HTTP/1.1 204 No Content\r\nA: b\r\n\r\n"
unfolding reply_text digits
no_content = refl
