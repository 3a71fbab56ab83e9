-- The namespaces of documents (RFC 4918, section 21; Subversion's notes on its use of WebDAV).
use Rattle.std.specs.Prelude.{ℕ, List, codes}
use Rattle.dav_documents.specs.declared.namespace.Namespace.{Namespace}
use Rattle.dav_documents.specs.declared.namespace.Namespace.TheVariants.{Dav, Svn, SubversionDav, SubversionSvn, SubversionCustom, ApacheDav}

-- the name of a namespace, as an attribute `xmlns` tells it
unfoldable pub uri_of : Namespace → List ℕ
uri_of Dav = codes "DAV:"
uri_of Svn = codes "svn:"
uri_of SubversionDav = codes "http://subversion.tigris.org/xmlns/dav/"
uri_of SubversionSvn = codes "http://subversion.tigris.org/xmlns/svn/"
uri_of SubversionCustom = codes "http://subversion.tigris.org/xmlns/custom/"
uri_of ApacheDav = codes "http://apache.org/dav/xmlns"
